-- Plain commands.
use Rattle.std.proofs.Common.{Bool, true, false, not, ◌&&◌, ◌≡◌}
use Rattle.std.proofs.lemmas.Bool.{and_parts, not-true}

-- a plain command has no global argument
pub no_globals : (groups external globals rest : Bool) → (groups && (not external && (not globals && rest))) ≡ true
    → globals ≡ false
no_globals groups external globals rest plain =
    not-true globals (and_parts _ _ (and_parts _ _ (and_parts groups _ plain).1).1).0
