-- Of which words nodes are made that stand one behind the other, and how long their tapes of zeros are.
use Rattle.std.proofs.Common.{◌≡◌, ℕ, Option, Some, None, unwrap_or, zero, suc, ◌+◌, ◌*◌, ◌^◌, ◌<◌, ◌≤◌, List, [], ◌∷◌, ◌++◌, length, replicate, sum_by, take, get_or, refl, sym, ap, ◌∙◌, subst, length-append, append-nil, zero-add, arith}
use Rattle.std.specs.List.{AllByRecursion, flat_map}
use Rattle.std.proofs.lemmas.Grind.{flat_map-append}
use Rattle.std.proofs.lemmas.List.{take_more}
use Rattle.std.proofs.lemmas.List.Sums.{sum_by-append}
use Rattle.std.proofs.lemmas.List.Concat.{length-flat_map}
use Rattle.std.proofs.lemmas.List.Folds.{sum_by-replicate}
use Rattle.std.proofs.lemmas.Nat.{mul-lt}
use Rattle.type_graph.specs.declared.width.Width.{Width}
use Rattle.type_graph.specs.declared.node.Node.{Node}
use Rattle.type_graph.specs.declared.shape.Run.{Run}
use Rattle.type_graph.specs.declared.shape.Run.TheVariants.{Empty, Mixed}
use Rattle.type_graph.specs.Leaves.{IsWordOf, AreWords}
use Rattle.type_graph.specs.declared.shape.Shape.{Shape}
use Rattle.type_graph.specs.inner.Shapes.{IsRun, IsSize, IsShape}
use Rattle.type_graph.proofs.WordLaws.{all_append, all_front, all_back}

-- a node that is made of words has one width of them
one_width : (w v : Width) (leaves : List Node) → 1 ≤ length leaves → AllByRecursion (IsWordOf w) leaves
    → AllByRecursion (IsWordOf v) leaves → w ≡ v
one_width w v [] some a b = absurd (omega arith)
one_width w v (leaf ∷ leaves) some a b = sym a.0.width ∙ b.0.width

-- words of two widths are mixed
pub two_widths : (w v : Width) (n m : ℕ) (leaves more : List Node) → (v ≡ w → ⊥) → AreWords w n leaves
    → AreWords v m more → IsRun (leaves ++ more) Mixed
two_widths w v n m leaves more apart a b = λ u all.
    let here = one_width w u leaves (subst (λ (k : ℕ). 1 ≤ k) (sym a.long) a.some) a.words
    (all_front (IsWordOf u) leaves more all) in
    let there = one_width v u more (subst (λ (k : ℕ). 1 ≤ k) (sym b.long) b.some) b.words
    (all_back (IsWordOf u) leaves more all) in
    absurd (apart (there ∙ sym here))

-- what begins mixed is mixed
pub mixed_first : (leaves more : List Node) → IsRun leaves Mixed → IsRun (leaves ++ more) Mixed
mixed_first leaves more a = λ w all.
    let long = a w (all_front (IsWordOf w) leaves more all) in
    omega (arith, long, length-append leaves more)

-- and what ends so
pub mixed_last : (leaves more : List Node) → IsRun more Mixed → IsRun (leaves ++ more) Mixed
mixed_last leaves more a = λ w all.
    let long = a w (all_back (IsWordOf w) leaves more all) in
    omega (arith, long, length-append leaves more)

-- nothing behind
pub run_nothing : (leaves more : List Node) (run : Run) → more ≡ [] → IsRun leaves run → IsRun (leaves ++ more) run
run_nothing leaves more run e a =
    subst (λ (l : List Node). IsRun l run) (sym (ap (λ (l : List Node). leaves ++ l) e ∙ append-nil leaves)) a

-- nothing in front
pub nothing_run : (leaves more : List Node) (run : Run) → leaves ≡ [] → IsRun more run → IsRun (leaves ++ more) run
nothing_run leaves more run e a = subst (λ (l : List Node). IsRun (l ++ more) run) (sym e) a

-- words of one width one behind the other
pub words_words : (w : Width) (n m : ℕ) (leaves more : List Node) → AreWords w n leaves → AreWords w m more
    → AllByRecursion (IsWordOf w) (leaves ++ more) × (length (leaves ++ more) ≡ n + m)
words_words w n m leaves more a b = (
  all_append (IsWordOf w) leaves more a.words b.words,
  let whole = length-append leaves more in let first = a.long in let second = b.long in
      omega (arith, whole, first, second),
)

-- a copy for each of some numbers keeps a fact
pub all_copies : (P : Node → Type 0) (leaves : ℕ → List Node) (n number : ℕ) → AllByRecursion P (leaves number)
    → AllByRecursion P (flat_map leaves (replicate n number))
all_copies P leaves zero number a = tt
all_copies P leaves (suc n) number a =
    all_append P (leaves number) (flat_map leaves (replicate n number)) a (all_copies P leaves n number a)

-- n copies are n times as long
pub length-copies : (leaves : ℕ → List Node) (n number : ℕ)
    → length (flat_map leaves (replicate n number)) ≡ n * length (leaves number)
length-copies leaves n number = length-flat_map leaves (replicate n number)
    ∙ sum_by-replicate (λ m. length (leaves m)) n number

-- copies of nothing
pub no_copies : (leaves : ℕ → List Node) (n number : ℕ) → leaves number ≡ [] → flat_map leaves (replicate n number) ≡ []
no_copies leaves zero number e = refl
no_copies leaves (suc n) number e = ap (λ (l : List Node). l ++ flat_map leaves (replicate n number)) e
    ∙ no_copies leaves n number e

-- copies of what is mixed
pub mixed_copies : (leaves : ℕ → List Node) (n number : ℕ) → 1 ≤ n → IsRun (leaves number) Mixed
    → IsRun (flat_map leaves (replicate n number)) Mixed
mixed_copies leaves zero number some a = absurd (omega arith)
mixed_copies leaves (suc n) number some a = mixed_first (leaves number) (flat_map leaves (replicate n number)) a

-- some copies of some words are some
pub some_copies : (n m : ℕ) → 1 ≤ n → 1 ≤ m → 1 ≤ n * m
some_copies n m some words = omega (arith, mul-lt 0 0 n m (omega arith) (omega arith))

-- one member more
pub shape_more : (leaves : ℕ → List Node) (size : ℕ → ℕ) (members : List ℕ) (i : ℕ) (shape : Shape) → i < length members
    → IsShape (flat_map leaves (take i members) ++ leaves (get_or members i 0))
    (sum_by size (take i members) + size (get_or members i 0)) shape
    → IsShape (flat_map leaves (take (i + 1) members)) (sum_by size (take (i + 1) members)) shape
shape_more leaves size members i shape lt a =
    let number = get_or members i 0 in
    let front = take i members in
    let made : flat_map leaves (front ++ number ∷ []) ≡ flat_map leaves front ++ leaves number =
    flat_map-append leaves front (number ∷ [])
    ∙ ap (λ (l : List Node). flat_map leaves front ++ l) (append-nil (leaves number)) in
    let whole : sum_by size (front ++ number ∷ []) ≡ sum_by size front + size number =
    sum_by-append size front (number ∷ []) ∙ ap (λ (n : ℕ). sum_by size front + n) (zero-add (size number)) in
    subst (λ (l : List ℕ). IsShape (flat_map leaves l) (sum_by size l) shape) (sym (take_more members i 0 lt))
    (subst (λ (l : List Node). IsShape l (sum_by size (front ++ number ∷ [])) shape) (sym made)
    (subst (λ (n : ℕ). IsShape (flat_map leaves front ++ leaves number) n shape) (sym whole) a))

-- nothing is no words
pub empty_none : (leaves : List Node) (w : Width) (n : ℕ) → IsRun leaves Empty → AreWords w n leaves → ⊥
empty_none leaves w n e words = let long = words.long in let some = words.some in let none = ap length e in omega arith

-- neither is what is mixed
pub mixed_none : (leaves : List Node) (w : Width) (n : ℕ) → IsRun leaves Mixed → AreWords w n leaves → ⊥
mixed_none leaves w n mixed words = let long = words.long in let limited = words.limited in let past =
    mixed w words.words in omega arith

-- a size that a list can have is the one that is meant
pub size_meant : (size : Option ℕ) (n k : ℕ) → IsSize n size → k ≡ unwrap_or size 18446744073709551615 → k < 2 ^ 63
    → k ≡ n
size_meant None n k fits e small = absurd (omega arith)
size_meant (Some m) n k fits e small = e ∙ fits.1
