-- Facts about outputs.
use Rattle.std.proofs.Common.{◌≡◌, ◌∙◌, ap, subst, ℕ, Bool, true, false, List, ◌++◌, Option, Some, None, append_assoc, length-append, arith}
use Rattle.std.specs.Io.KnownBytes.{Appends}
use Rattle.giop_dumps.specs.Outputs.{HasGrown, HasLines}

-- an output as it was, or with lines, as messages were told
abbrev pub SoFar : {O : Type 0} → (O → Option (List ℕ)) → Bool → O → O → Type 0
SoFar contents false old new = new ≡ old
SoFar contents true old new = HasGrown (contents old) (contents new)

appends_twice : (old mid new : Option (List ℕ)) (one two : List ℕ) → Appends old mid one → Appends mid new two
    → Appends old new (one ++ two)
appends_twice None mid new one two a b = tt
appends_twice (Some xs) None new one two a b = absurd a
appends_twice (Some xs) (Some ys) None one two a b = absurd b
appends_twice (Some xs) (Some ys) (Some zs) one two a b = b ∙ ap (λ l. l ++ two) a ∙ append_assoc xs one two

-- more lines
pub so_far_more : {O : Type 0} (contents : O → Option (List ℕ)) (told : Bool) (old mid new : O) (lines : List ℕ)
    → SoFar contents told old mid → HasLines lines → Appends (contents mid) (contents new) lines
    → SoFar contents true old new
so_far_more contents false old mid new lines same some more = record {
  lines = lines;
  some = some;
  appended = subst (λ m. Appends (contents m) (contents new) lines) same more;
}
so_far_more contents true old mid new lines grown some more = record {
  lines = grown.lines ++ lines;
  some = let before = grown.some in omega (arith, length-append grown.lines lines);
  appended = appends_twice (contents old) (contents mid) (contents new) grown.lines lines grown.appended more;
}

-- at a fault
pub untold : {O : Type 0} (contents : O → Option (List ℕ)) (told : Bool) (old new : O) → SoFar contents told old new
    → told ≡ false → new ≡ old
untold contents false old new same is = same
untold contents true old new grown is = absurd cc
