-- The sample table keeps the rules of a graph and of a program.
use Rattle.std.proofs.Common.{◌≡◌, zero, suc, [], ◌∷◌, ◌<◌, ◌∙◌, ap, slice_get, codes, refl, sym, subst, inl, arith}
use Rattle.std.specs.List.{EachIndex}
use Rattle.std.proofs.lemmas.Option.{slice_get_within}
use Rattle.std.proofs.lemmas.List.Elements.{All-from_recursion}
use Rattle.type_graph.specs.GraphRules.{IsNode, IsPart, AreMembers, IsShallow, IsGraph}
use Rattle.type_graph.specs.Walks.{height_within}
use Rattle.marshal_program.specs.Plain.{plain_program}
use Rattle.marshal_program.specs.ProgramRules.{IsProgram}
use Rattle.marshal_program.proofs.PlainRules.{plain_is_program}
use Rattle.type_model.specs.ModelRules.{IsModel, IsInterface, IsOperation, IsException}
use Rattle.table_file.specs.declared.table.Which.TheVariants.{First}
use Rattle.table_file.specs.Table.{AreUses}
use Rattle.position_checker.specs.Acceptance.{IsLone}
use Rattle.command_tables.specs.Sample.{sample_model, sample_nodes, sample_program, sample_table}

-- no value of the sample types is deeper than a structure
each_shallow : EachIndex sample_nodes (IsShallow 64 sample_nodes)
unfolding IsShallow
each_shallow zero within = tt
each_shallow (suc zero) within = tt
each_shallow (suc (suc zero)) within = tt
each_shallow (suc (suc (suc zero))) within = (tt, (tt, (tt, tt)))
each_shallow (suc (suc (suc (suc n)))) within = absurd (omega arith)

members_rules : AreMembers sample_nodes (0 ∷ 1 ∷ 2 ∷ [])
members_rules = record {
  limited = omega arith;
  parts = All-from_recursion (IsPart sample_nodes) (0 ∷ 1 ∷ 2 ∷ []) (tt, (tt, (tt, tt)));
}

pub sample_is_graph : IsGraph sample_nodes
sample_is_graph = record {
  limited = omega arith;
  nodes = All-from_recursion (IsNode sample_nodes) sample_nodes
      (tt, (tt, (omega arith, ((omega arith, members_rules), tt))));
  members = omega arith;
  shallow = each_shallow;
}

-- its program is the plain one of its graph
pub sample_is_plain : sample_program ≡ plain_program sample_nodes
unfolding height_within
sample_is_plain = refl

pub sample_is_program : IsProgram sample_program
sample_is_program = subst IsProgram (sym sample_is_plain) (plain_is_program sample_nodes sample_is_graph)

-- it keeps the rules of a model: its only name is in the graph
pub sample_is_model : IsModel sample_model
sample_is_model = record {
  graph = sample_is_graph;
  names = record {
    distinct = λ i j d before within. absurd (omega (arith, before, within));
    within = All-from_recursion (λ name. name.1 < 4) ((codes "S", 3) ∷ []) (omega arith, tt);
  };
  declared = record {
    each_interface = All-from_recursion (IsInterface 0) [] tt;
    each_operation = All-from_recursion (IsOperation sample_nodes ((codes "S", 3) ∷ []) 0) [] tt;
    each_exception = All-from_recursion (IsException sample_nodes ((codes "S", 3) ∷ [])) [] tt;
  };
}

-- and those of a table
pub sample_has_uses : AreUses ((codes "S", 3) ∷ []) (First ∷ [])
sample_has_uses = record {
  each = refl;
  alike = λ i j one other here there same.
      let i_is : i ≡ 0 = omega (arith, slice_get_within ((codes "S", 3) ∷ []) i one here) in
      let j_is : j ≡ 0 = omega (arith, slice_get_within ((codes "S", 3) ∷ []) j other there) in
      ap (slice_get (First ∷ [])) (i_is ∙ sym j_is);
}

pub sample_is_lone : IsLone sample_table
sample_is_lone = record {
  first = inl sample_is_plain;
  second = refl;
  uses = All-from_recursion (λ program. program ≡ First) (First ∷ []) (refl, tt);
}
