-- Where a whole file stops.
use Rattle.std.proofs.Common.{◌≡◌, ℕ, Bool, true, false, List, [], ◌∷◌, ◌++◌, length, Option, Some, None, refl, sym, ap, ap₂, ◌∙◌, append_assoc, arith}
use Rattle.std.specs.Prelude.{is_some, Contains}
use Rattle.std.specs.Fmt.{◌++?◌}
use Rattle.table_file.specs.Octets.{spelled_list}
use Rattle.table_file.specs.inner.Reading.{BeginsWithNone}
use Rattle.table_file.specs.inner.Passing.{HasOne, Passes, PassesCounted, PassesOne}
use Rattle.table_file.specs.inner.Joins.{joins_assoc, split, parted}
use Rattle.table_file.specs.inner.Codes.{IsCode}
use Rattle.table_file.specs.inner.Forms.{letter, spelled_counted}
use Rattle.table_file.proofs.OctetRuns.{letter_each, letter_only}
use Rattle.table_file.proofs.PassLaws.{one_passes}

-- ---- "IDLT"

pub one_letter : (n : ℕ) → HasOne (letter n)
one_letter n = (tt, n ∷ [], refl)

pub letter_code : (n : ℕ) → IsCode (letter n)
letter_code n = record {
  one = λ a b x y octets ea eb. (refl, cc);
  some = λ a octets e. let l : 1 ≡ length octets = ap length (let same : n ∷ [] ≡ octets = cc in same) in
      omega (arith, l);
}

pub letter_passes : (n : ℕ) (result : Option ℕ) (old new : List ℕ) → PassesOne (λ m. Contains (n ∷ []) m) result old new
    → Passes (letter n) (is_some result) old new
letter_passes n result old new p =
    one_passes (letter n) (λ m. Contains (n ∷ []) m) (letter_code n) (one_letter n) (letter_each n) (letter_only n)
    result old new p

pub letter_told : (n : ℕ) (result : Option ℕ) (old new : List ℕ) (b : Bool) → b ≡ is_some result
    → PassesOne (λ m. Contains (n ∷ []) m) result old new → Passes (letter n) b old new
letter_told n result old new b e p = rw e (letter_passes n result old new p)

-- ---- a list, and behind it what its length asks for

module _ {A B : Type 0} (f : A → Option (List ℕ)) (behind : ℕ → B → Option (List ℕ)) (code : IsCode (spelled_list f))
  where
    -- another list isn't before it
    no_behind : (xs : List A) (n : ℕ) (mid octets : List ℕ) → length xs ≡ n
        → spelled_list f xs ++? Some mid ≡ Some octets
        → BeginsWithNone (behind n) mid → BeginsWithNone (spelled_counted f behind) octets
    no_behind xs n mid octets long e none = λ y rest ey.
        let p = parted (spelled_list f y.0) (behind (length y.0) y.1) (Some rest) octets ey in
        let same = code.one y.0 xs p.0 mid octets p.2 e in
        none y.1 rest
        (ap (λ m. behind m y.1 ++? Some rest) (sym long ∙ ap length (sym same.0)) ∙ p.1 ∙ ap Some same.1)

    pub counted_passes : (n : ℕ) (b : Bool) (old mid new : List ℕ) → PassesCounted f (Some n) old mid
        → Passes (behind n) b mid new → Passes (spelled_counted f behind) b old new
    counted_passes n true old mid new p q =
        let xs = p.passes.0 in
        let y = q.passes.0 in
        record {
          passes = (
            (xs, y),
            joins_assoc (spelled_list f xs) (behind (length xs) y) (Some new)
                ∙ ap (λ m. spelled_list f xs ++? (behind m y ++? Some new)) p.passes.1
                ∙ ap (λ o. spelled_list f xs ++? o) q.passes.1 ∙ p.passes.2,
          );
        }
    counted_passes n false old mid new p q =
        let xs = p.passes.0 in
        let s = q.passes in
        let whole = split (spelled_list f xs) (Some mid) old p.passes.2 in
        let mids : mid ≡ whole.1 = cc in
        record {
          passes = record {
            front = whole.0 ++ s.front;
            is = sym whole.4 ∙ ap (λ t. whole.0 ++ t) (sym mids ∙ s.is) ∙ sym (append_assoc whole.0 s.front new);
            begins = (
              (xs, s.begins.0),
              s.begins.1,
              ap₂ (λ a b. a ++? b) whole.2 (ap (λ m. behind m s.begins.0) p.passes.1 ∙ s.begins.2)
                  ∙ ap Some (sym (append_assoc whole.0 s.front s.begins.1)),
            );
            ends = λ any same.
                no_behind xs n (s.front ++ any) ((whole.0 ++ s.front) ++ any) p.passes.1
                (ap (λ o. o ++? Some (s.front ++ any)) whole.2 ∙ ap Some (sym (append_assoc whole.0 s.front any)))
                (s.ends any same);
          };
        }

    -- no list is there
    pub counted_stops : ((n : ℕ) → HasOne (behind n)) → (old new : List ℕ) → PassesCounted f None old new
        → Passes (spelled_counted f behind) false old new
    counted_stops one old new p =
        let s = p.passes in
        let xs = s.begins.0 in
        let fill = one (length xs) in
        record {
          passes = record {
            front = s.front;
            is = s.is;
            begins = (
              (xs, fill.0),
              s.begins.1 ++ fill.1,
              ap₂ (λ a b. a ++? b) s.begins.2 fill.2 ∙ ap Some (append_assoc s.front s.begins.1 fill.1),
            );
            ends = λ any same y rest e.
                let q = parted (spelled_list f y.0) (behind (length y.0) y.1) (Some rest) (s.front ++ any) e in
                s.ends any same y.0 q.0 q.2;
          };
        }
