-- The way over definitions leads over each specification.
use Rattle.std.proofs.Common.{◌≡◌, ◌∙◌, ℕ, suc, zero, ◌≤◌, codes, Bool, true, false, ◌&&◌, not, List, [], ◌∷◌, ◌++◌, Some, length, ap, refl, arith}
use Rattle.idl_lexer.specs.declared.token.Token.{Token}
use Rattle.idl_lexer.specs.declared.token.Kind.TheVariants.{Keyword, Punct, Pragma as PragmaToken}
use Rattle.idl_tree.specs.declared.names.Leaf.{Leaf}
use Rattle.idl_tree.specs.declared.definitions.Interface.{Interface}
use Rattle.idl_tree.specs.declared.definitions.Interface.TheVariants.{Ahead, Defined}
use Rattle.idl_tree.specs.declared.definitions.Definition.{Definition, Pragma, Declaration as Declared, Interface as InterfaceDcl, Module', Row_of-Definition, end_of-Definition, more_of-Definition}
use Rattle.idl_tree.specs.Pieces.{Piece, Seen, keyword, mark, seen_from, Spell}
use Rattle.idl_tree.specs.Yields.{identifier}
use Rattle.idl_tree.specs.DefinitionYields.{interface_yield, definition_yield, definitions_yield, definitions_spelled}
use Rattle.idl_tree.specs.DefinitionLevels.{definition_levels, definitions_levels, levels_of}
use Rattle.idl_tree.specs.Descent.{sees_word, repeated}
use Rattle.idl_tree.specs.DefinitionDescent.{single_way, is_over, goes_on, definition_way, definitions_way}
use Rattle.idl_tree.proofs.Fronts.{Reads, begins, split, reads_none}
use Rattle.idl_tree.proofs.Same.{is_in, Among, Any, leads_first}
use Rattle.idl_tree.proofs.Declarations.{declared, declaration_begins}
use Rattle.idl_tree.proofs.Interfaces.{interface_begins}
use Rattle.idl_tree.proofs.TreeDefinitions.{defined, definition_starts, definition_starts_are, definition_begins, spelled_at}
use Rattle.idl_tree.proofs.Takes.{Takes, front, front_on, front_next, last_next, Shows, shows_first, shown_by, unseen, hides, choose, pass, piece_takes, piece_shows, leaf_takes, leaf_shows, no_pragma, Repeats, takes_repeated, goes_no, goes_yes, shorter_left}
use Rattle.idl_tree.proofs.TypeWays.{takes_named}
use Rattle.idl_tree.proofs.MemberWays.{Brace, brace_leads}
use Rattle.idl_tree.proofs.DeclarationWays.{takes_declaration, declaration_shows}
use Rattle.idl_tree.proofs.InterfaceWays.{takes_interface, takes_ended}

-- ---- definitions that hold no others

abbrev is_single : Definition → Bool
is_single (Module' id shape ds) = false
is_single d = true

interface_word : (i : Interface) → Shows (interface_yield i) Any (λ t. sees_word (codes "interface") t) true
interface_word (Ahead id) = shows_first _ (piece_shows Keyword (codes "interface"))
interface_word (Defined id bases exports) =
    shows_first _ (shows_first _
    (shows_first _ (shows_first _ (shows_first _ (piece_shows Keyword (codes "interface"))))))

takes_single : (room : ℕ) (d : Definition) → is_single d ≡ true → definition_levels d ≤ room
    → Takes (definition_yield d) (λ t. single_way room t) Any
unfolding single_way
takes_single room (Pragma p) h few = choose _ (leaf_shows PragmaToken p) (leaf_takes PragmaToken p)
takes_single room (InterfaceDcl i) h few =
    pass _ (shown_by (leads_first _ (interface_begins i)) (λ t. no_pragma (33 ∷ []) t refl))
    (choose _ (shows_first _ (interface_word i)) (takes_interface room i few))
takes_single room (Declared d) h few =
    pass _ (shown_by (leads_first _ (declaration_begins d)) (λ t. no_pragma declared t refl))
    (pass _ (hides Keyword (codes "interface") refl (leads_first _ (declaration_begins d)))
    (choose _ (shows_first _ (declaration_shows d)) (takes_ended (takes_declaration room d few))))
takes_single room (Module' id shape ds) h few = absurd (cc)

-- ---- definitions one behind another

both : {a b : Bool} → a ≡ true → b ≡ true → (a && b) ≡ true
both {a = true} e f = f
both {a = false} e f = absurd cc

and_no : (a b : Bool) → b ≡ false → (a && b) ≡ false
and_no true b e = e
and_no false b e = refl

not_over : (ms : List ℕ) (t : List Seen) → is_in ms 0 ≡ false → Among ms t → not (is_over t) ≡ true
unfolding begins
not_over ms [] h a = let here = a.is in absurd (cc)
not_over ms (s ∷ ss) h a = refl

goes : (t : List Seen) → Among defined t → goes_on t ≡ true
goes t a = both (not_over defined t refl a) (ap not (unseen Punct (codes "}") defined t refl a))

goes_not : (t : List Seen) → Brace t → goes_on t ≡ false
goes_not t b = and_no (not (is_over t)) _ (ap not b.seen)

pub record DefinitionTaken (d : Definition) : Type 0 where
  pub by : (room : ℕ) → definition_levels d ≤ room → Takes (definition_yield d) (λ t. definition_way room t) Any

record DefinitionsTaken {n : _} (ds : Row_of-Definition n) : Type 0 where
  pub by : (room : ℕ) → definitions_levels ds ≤ room → (fuel t r : List Seen) → Reads (definitions_yield ds) t r
      → Brace r → length t ≤ length fuel
      → repeated goes_on (λ u. definition_way room u) fuel t ≡ Some r

no_definitions : DefinitionsTaken end_of-Definition
no_definitions = record {
  by = λ room few fuel t r h b le. goes_no _ _ fuel t (ap goes_on (reads_none h) ∙ goes_not r b)
      ∙ ap Some (reads_none h);
}

more_definitions : {n : _} (d : Definition) (ds : Row_of-Definition n) → DefinitionTaken d → DefinitionsTaken ds
    → DefinitionsTaken (more_of-Definition d ds)
more_definitions d ds one others = record {
  by = λ room few fuel t r h b le.
      let two = split (definition_yield d) (definitions_yield ds) t r h in
      let m = two.middle in
      let took = (one.by room (omega (arith, few))).by t m two.front tt in
      goes_yes _ _ fuel t m r (goes t ((definition_begins d).by t m two.front tt)) took
      (shorter_left refl (definition_begins d) t m two.front) le
      (λ (left : List Seen) (lt : length m ≤ length left). others.by room (omega (arith, few)) left m r two.back b lt);
}

takes_single_so : (room : ℕ) (d : Definition) → is_single d ≡ true → is_in (definition_starts d) 34 ≡ false
    → definition_levels d ≤ room → Takes (definition_yield d) (λ t. definition_way room t) Any
unfolding definition_way
takes_single_so zero d h e few =
    pass _ (hides Keyword (codes "module") e (definition_starts_are d)) (takes_single 0 d h few)
takes_single_so (suc left) d h e few =
    pass _ (hides Keyword (codes "module") e (definition_starts_are d)) (takes_single (suc left) d h few)

single_taken : (d : Definition) → is_single d ≡ true → is_in (definition_starts d) 34 ≡ false → DefinitionTaken d
single_taken d h e = record { by = λ room few. takes_single_so room d h e few }

inner_taken : (left : ℕ) {n : _} (ds : Row_of-Definition n) → DefinitionsTaken ds
    → suc (definitions_levels ds) ≤ suc left
    → Takes (definitions_yield ds) (λ v. repeated goes_on (λ w. definition_way left w) v v) Brace
inner_taken left ds taken few = record { by = λ t r h b. taken.by left (omega arith) t t r h b (omega arith) }

abbrev module_yields : Leaf → {n : _} → Row_of-Definition n → List Piece
module_yields id ds =
    keyword (codes "module") ++ identifier id ++ mark (codes "{") ++ definitions_yield ds ++ mark (codes "}")
    ++ mark (codes ";")

takes_module : (room : ℕ) (id : Leaf) {n : _} (ds : Row_of-Definition n) → DefinitionsTaken ds
    → suc (definitions_levels ds) ≤ room → Takes (module_yields id ds) (λ t. definition_way room t) Any
unfolding definition_way
takes_module zero id ds taken few = absurd (omega arith)
takes_module (suc left) id ds taken few =
    choose _ (shows_first _ (shows_first _
    (shows_first _ (shows_first _ (shows_first _ (piece_shows Keyword (codes "module")))))))
    (last_next (front_on (front_next
    (front_next (front (takes_named (codes "module") id)) (front (piece_takes Punct (codes "{"))))
    (front (inner_taken left ds taken few))) brace_leads
    (front (piece_takes Punct (codes "}")))) (piece_takes Punct (codes ";")))

mutual
  pub definition_taken : (d : Definition) → DefinitionTaken d
  definition_taken (Pragma p) = single_taken (Pragma p) refl refl
  definition_taken (Declared d) = single_taken (Declared d) refl refl
  definition_taken (InterfaceDcl i) = single_taken (InterfaceDcl i) refl refl
  definition_taken (Module' id shape ds) =
      record { by = λ room few. takes_module room id ds (definitions_taken ds) few }

  definitions_taken : {n : _} (ds : Row_of-Definition n) → DefinitionsTaken ds
  definitions_taken end_of-Definition = no_definitions
  definitions_taken (more_of-Definition d ds) = more_definitions d ds (definition_taken d) (definitions_taken ds)

-- ---- a whole specification

abbrev Over : List Seen → Type 0
Over t = t ≡ []

over : (t : List Seen) → Over t → goes_on t ≡ false
over t e = ap goes_on e

definitions_repeat : (room : ℕ)
    → Repeats definition_yield definition_levels room goes_on (λ u. definition_way room u) defined Any Over
definitions_repeat room = record {
  takes = λ d few. (definition_taken d).by room few;
  shows = λ d. shown_by (definition_begins d) goes;
  first = definition_begins;
  some = refl;
  more = λ t a. tt;
  end = λ t a. tt;
  none = over;
}

pub spec_found : (room : ℕ) (tokens : List Token) (ds : List Definition) → Spell (definitions_spelled ds) tokens
    → levels_of ds ≤ room → definitions_way room (seen_from 0 tokens) ≡ Some []
spec_found room tokens ds h few =
    let t = seen_from 0 tokens in
    (takes_repeated (definitions_repeat room) ds few).by t [] (spelled_at _ t _ refl h) refl
