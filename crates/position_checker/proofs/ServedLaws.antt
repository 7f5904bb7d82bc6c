-- The routines that serve nodes, as the first routines of a program tell them.
use Rattle.std.proofs.Common.{length-take-le, ◌≡◌, ◌<◌, ◌≤◌, ◌+◌, ℕ, Bool, cond, not, List, [], ◌∷◌, ◌++◌, length, take, take_all, get_or, Option, Some, None, sym, ap, ◌∙◌, arith, slice_get}
use Rattle.std.specs.Option.{option_or}
use Rattle.std.specs.List.{position}
use Rattle.std.proofs.lemmas.List.{take_more}
use Rattle.std.proofs.lemmas.List.Sums.{prefix_len-le-length}
use Rattle.std.proofs.lemmas.Grind.{common_steps}
use Rattle.std.proofs.lemmas.Option.{slice_get-get_or}
use Rattle.marshal_program.specs.declared.instr.Routine.{Routine}
use Rattle.marshal_program.specs.Served.{is_serving, served_by}

-- one more element
pub position_more : {X : Type 0} (p : X → Bool) (xs : List X) (x : X)
    → position p (xs ++ x ∷ []) ≡ option_or (position p xs) (cond (p x) (Some (length xs)) None)
position_more p xs x =
    let short = prefix_len-le-length (λ x. not (p x)) xs in
    grind (arith, common_steps, short)

-- what the routines before a number serve
pub record ServedUpTo (program : List Routine) (count number : ℕ) (served : List (Option ℕ)) : Type 0 where
  pub long : length served ≡ count
  pub each : (node : ℕ) → node < count → get_or served node None ≡ served_by (take number program) node

pub serves_more : (program : List Routine) (count number : ℕ) (routine : Routine) (served next : List (Option ℕ))
    → number < length program → routine ≡ get_or program number routine
    → length next ≡ length served
    → ((node : ℕ) → node < length served → get_or next node None
    ≡ option_or (get_or served node None) (cond (is_serving node routine) (Some number) None))
    → ServedUpTo program count number served → ServedUpTo program count (number + 1) next
serves_more program count number routine served next within is long step up =
    let parts : take (number + 1) program ≡ take number program ++ routine ∷ [] =
    take_more program number routine within ∙ ap (λ r. take number program ++ r ∷ []) (sym is) in
    let here : length (take number program) ≡ number = length-take-le number program (omega (arith, within)) in
    record {
      long = long ∙ up.long;
      each = λ node inside.
          step node (omega (arith, inside, up.long))
          ∙ ap (λ o. option_or o (cond (is_serving node routine) (Some number) None)) (up.each node inside)
          ∙ ap (λ n. option_or (served_by (take number program) node) (cond (is_serving node routine) (Some n) None))
          (sym here)
          ∙ sym (ap (position (is_serving node)) parts ∙ position_more (is_serving node) (take number program) routine);
    }

pub serves_all : (program : List Routine) (count number : ℕ) (served : List (Option ℕ)) → length program ≤ number
    → ServedUpTo program count number served
    → (node : ℕ) → node < count → slice_get served node ≡ Some (served_by program node)
serves_all program count number served past up node within =
    slice_get-get_or served node None (omega (arith, within, up.long))
    ∙ ap Some (up.each node within ∙ ap (λ p. served_by p node) (take_all number program past))
