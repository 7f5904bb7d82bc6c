-- How many line feeds stand before a place.
use Rattle.std.proofs.Common.{◌≡◌, ◌==◌, ◌+◌, ◌-◌, ◌<◌, ◌≤◌, ◌∙◌, ℕ, zero, suc, Bool, not, true, false, List, drop, take, length, ap, sym, arith, inr}
use Rattle.std.specs.Prelude.{count_by, slice_index}
use Rattle.std.specs.List.{position_or_len}
use Rattle.std.proofs.lemmas.Bool.Decides.{nat_tests}
use Rattle.std.proofs.lemmas.List.Sums.{count_by_more_no, count_by_more_yes, fails_before_first, passes_at_first, prefix_len-le-length}
use Rattle.std.proofs.lemmas.List.{get_or-drop, length-drop, take_all}
use Rattle.diagnostic_views.specs.Places.{IsLineStart}

abbrev pub is_feed : ℕ → Bool
is_feed c = c == 10

abbrev pub feeds_before : ℕ → List ℕ → ℕ
feeds_before n source = count_by is_feed (take n source)

fed : (c : ℕ) → is_feed c ≡ true → c ≡ 10
fed c is = grind (arith, nat_tests)

-- a run without one
run : (source : List ℕ) (start n : ℕ) → start + n ≤ length source
    → ((k : ℕ) → k < n → is_feed (slice_index source (start + k)) ≡ false)
    → feeds_before (start + n) source ≡ feeds_before start source
run source start zero within plain =
    let same : start + 0 ≡ start = omega arith in
    ap (λ m. feeds_before m source) same
run source start (suc n) within plain =
    let same : start + suc n ≡ start + n + 1 = omega arith in
    ap (λ m. feeds_before m source) same
    ∙ count_by_more_no is_feed source (start + n) 0 (omega arith) (plain n (omega arith))
    ∙ run source start n (omega arith) (λ k less. plain k (omega arith))

-- the run before the first one behind a place
before_first_feed : (source : List ℕ) (start : ℕ) → start ≤ length source
    → feeds_before (start + position_or_len is_feed (drop start source)) source ≡ feeds_before start source
before_first_feed source start within =
    let rest = drop start source in
    let short = length-drop start source in
    let most = prefix_len-le-length (λ c. not (is_feed c)) rest in
    run source start (position_or_len is_feed rest) (omega arith)
    (λ k less. ap is_feed (sym (get_or-drop start source k 0)) ∙ fails_before_first is_feed rest k 0 less)

-- the line behind one that has an end
pub next_line : (source : List ℕ) (number start : ℕ) → IsLineStart source number start
    → position_or_len is_feed (drop start source) < length (drop start source)
    → IsLineStart source (number + 1) (start + (position_or_len is_feed (drop start source) + 1))
next_line source number start begun ends =
    let rest = drop start source in
    let end = position_or_len is_feed rest in
    let short = length-drop start source in
    let within = begun.within in
    let at_feed : is_feed (slice_index source (start + end)) ≡ true =
    ap is_feed (sym (get_or-drop start source end 0)) ∙ passes_at_first is_feed rest 0 ends in
    let one_more = count_by_more_yes is_feed source (start + end) 0 (omega arith) at_feed in
    let so_far = before_first_feed source start within in
    let counts = begun.counts in
    let place : start + (end + 1) ≡ start + end + 1 = omega arith in
    let feed : start + (end + 1) - 1 ≡ start + end = omega arith in
    record {
      within = omega arith;
      begins = inr (ap (slice_index source) feed ∙ fed (slice_index source (start + end)) at_feed);
      counts = ap (λ m. m + 1) (ap (λ m. feeds_before m source) place ∙ one_more ∙ ap (λ m. m + 1) so_far ∙ counts);
    }

-- no line behind one that has none
pub no_line : (source : List ℕ) (number start : ℕ) → IsLineStart source number start
    → position_or_len is_feed (drop start source) ≡ length (drop start source) → count_by is_feed source + 1 ≡ number
no_line source number start begun ends =
    let short = length-drop start source in
    let within = begun.within in
    let so_far = before_first_feed source start within in
    let whole = ap (count_by is_feed)
    (take_all (start + position_or_len is_feed (drop start source)) source (omega arith)) in
    let counts = begun.counts in
    omega arith
