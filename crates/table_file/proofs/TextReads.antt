-- Texts, which are octets of ASCII.
use Rattle.std.proofs.Common.{◌≡◌, ℕ, zero, suc, ◌<◌, Bool, true, false, List, [], ◌∷◌, ◌++◌, length, get_or, Option, Some, None, Result, Ok, Err, refl, sym, ap, ◌∙◌, nat_lt, arith}
use Rattle.std.specs.Bool.{OnFalse}
use Rattle.std.proofs.lemmas.Bool.{ltb-true}
use Rattle.std.specs.Bool.{then_some}
use Rattle.std.specs.Fmt.{◌++?◌}
use Rattle.std.specs.List.{list_all}
use Rattle.std.specs.Prelude.{IfOk, IfErr, OnOk, ◌&&◌}
use Rattle.marshal_program.specs.declared.fault.TableFault.{TableFault}
use Rattle.table_file.specs.Octets.{spelled_ascii, spelled_each, spelled_run}
use Rattle.table_file.specs.inner.Reading.{BeginsWithNone, Reads, Takes}
use Rattle.table_file.specs.Refusal.{wants_memory}
use Rattle.table_file.specs.inner.Joins.{split, passed, same_fronts}
use Rattle.table_file.specs.inner.ListCodes.{run_at, run_of}
use Rattle.table_file.proofs.ReadLaws.{taken_reads}
use Rattle.type_graph.proofs.Refusals.{only_if_weaker}

abbrev pub all_ascii : List ℕ → Bool
all_ascii = list_all (λ n. nat_lt n 128)

one_more : (b c : Bool) (x : ℕ) (xs : List ℕ) → then_some b (x ∷ []) ++? then_some c xs ≡ then_some (b && c) (x ∷ xs)
one_more true true x xs = refl
one_more true false x xs = refl
one_more false c x xs = refl

-- octets of ASCII stand for themselves
pub each_ascii : (xs : List ℕ) → spelled_each spelled_ascii xs ≡ then_some (all_ascii xs) xs
each_ascii [] = refl
each_ascii (x ∷ xs) = ap (λ o. spelled_ascii x ++? o) (each_ascii xs) ∙ one_more (nat_lt x 128) (all_ascii xs) x xs

first_ascii : (b c : Bool) → (b && c) ≡ true → (b ≡ true) × (c ≡ true)
first_ascii true c e = (refl, e)
first_ascii false c e = absurd (cc)

-- all of ASCII, place by place
pub ascii_at : (xs : List ℕ) → all_ascii xs ≡ true → (i : ℕ) → get_or xs i 0 < 128
ascii_at [] e i = omega arith
ascii_at (x ∷ xs) e zero = ltb-true x 128 (first_ascii (nat_lt x 128) (all_ascii xs) e).0
ascii_at (x ∷ xs) e (suc i) = ascii_at xs (first_ascii (nat_lt x 128) (all_ascii xs) e).1 i

pub ascii_spelled : (b : Bool) (xs : List ℕ) → all_ascii xs ≡ b → spelled_each spelled_ascii xs ≡ then_some b xs
ascii_spelled b xs e = each_ascii xs ∙ ap (λ c. then_some c xs) e

-- just so many octets of ASCII
pub ascii_run : (n : ℕ) (xs : List ℕ) → length xs ≡ n → all_ascii xs ≡ true → spelled_run n spelled_ascii xs ≡ Some xs
ascii_run n xs l e = run_of n spelled_ascii xs l ∙ each_ascii xs ∙ ap (λ b. then_some b xs) e

-- no text is spelled by others
no_ascii : (n : ℕ) (front rest octets : List ℕ) → length front ≡ n → octets ≡ front ++ rest → all_ascii front ≡ false
    → BeginsWithNone (spelled_run n spelled_ascii) octets
no_ascii n front rest octets l cut bad = λ xs behind e.
    let p = run_at n spelled_ascii xs behind octets e in
    let q = split (spelled_each spelled_ascii xs) (Some behind) octets p.1 in
    let t = passed (all_ascii xs) xs q.0 (sym (each_ascii xs) ∙ q.2) in
    let whole : xs ++ q.1 ≡ front ++ rest = ap (λ s. s ++ q.1) t.1 ∙ q.4 ∙ cut in
    let same = same_fronts xs front q.1 rest (p.0 ∙ sym l) whole in
    let clash : true ≡ false = sym t.0 ∙ ap all_ascii same.0 ∙ bad in
    absurd (cc)

-- what the octets of a name make of them
abbrev pub IsNameOf : List ℕ → Result (List ℕ) TableFault → Type 0
IsNameOf octets (Ok name) = (name ≡ octets) × (all_ascii octets ≡ true)
IsNameOf octets (Err fault) = OnFalse (wants_memory fault) (all_ascii octets ≡ false)

pub ascii_reads : (n : ℕ) (front : List ℕ) (r : Result (List ℕ) TableFault) (old new : Option (List ℕ))
    → Takes n front old new → IsNameOf front r
    → Reads (spelled_run n spelled_ascii) r old new
ascii_reads n front (Ok name) old new t is =
    taken_reads (spelled_run n spelled_ascii) name n front old new
    (ap (λ x. spelled_run n spelled_ascii x) is.0 ∙ ascii_run n front t.long is.1) t
ascii_reads n front (Err fault) (Some octets) (Some rest) t is =
    record {
      reads = only_if_weaker (wants_memory fault) (all_ascii front ≡ false)
          (BeginsWithNone (spelled_run n spelled_ascii) octets) (no_ascii n front rest octets t.long t.takes) is;
    }
ascii_reads n front (Err fault) (Some octets) None t is = absurd t.takes
ascii_reads n front (Err fault) None new t is = record { reads = tt }

pub is_name_of : (octets : List ℕ) (r : Result (List ℕ) TableFault) → IfOk r (λ name. name ≡ octets)
    → OnOk r (all_ascii octets ≡ true)
    → IfErr r (λ fault. OnFalse (wants_memory fault) (all_ascii octets ≡ false)) → IsNameOf octets r
is_name_of octets (Ok name) kept ascii refused = (kept, ascii)
is_name_of octets (Err fault) kept ascii refused = refused
