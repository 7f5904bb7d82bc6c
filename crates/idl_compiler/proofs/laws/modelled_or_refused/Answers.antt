use Rattle.std.proofs.Common.{◌≡◌, List, refl, subst}
use Rattle.idl_tree.specs.declared.definitions.Definition.{Definition}
use Rattle.model_builder.specs.Shown.{Shows}
use Rattle.type_model.specs.ModelRules.{Parts}
use Rattle.idl_compiler.specs.declared.fault.CompileFault.{CompileFault}
use Rattle.idl_compiler.specs.declared.fault.CompileFault.TheVariants.{Tokens, Grammar, Names, Types, TooLong, NoMemory}
use Rattle.idl_compiler.specs.Compiled.{IsModelOf}
use Rattle.idl_compiler.specs.Refused.{IsFaultOf}
use Rattle.idl_compiler.proofs.laws.modelled_or_refused.Goals as goal

pub returns : goal.returns
returns c = λ definitions model fault m f. by definitions model fault m f
  where
    by : (definitions : List Definition) (model : Parts) (fault : CompileFault)
        → IsModelOf definitions model → IsFaultOf definitions fault → fault ≡ NoMemory
    by definitions model (Tokens t) m f = absurd f
    by definitions model (Grammar t) m f = absurd f
    by definitions model (Names t) m f = let named = m.named in absurd cc
    by definitions model (Types t) m f =
        let same = c.names_are_one.ensures definitions m.names f.names m.named f.named in
        absurd (c.shown_or_refused.ensures definitions f.names model t
        (subst (λ n. Shows definitions n model) same m.shows) f.is)
    by definitions model TooLong m f = absurd f
    by definitions model NoMemory m f = refl
