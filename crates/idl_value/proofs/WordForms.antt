-- The octets of a number in two's complement are the lowest of its octets among sixteen.
use Rattle.std.proofs.Common.{◌≡◌, ℕ, ◌-◌, ◌*◌, ◌^◌, ◌<◌, ℤ, pos, negsuc, true, false, List, ◌∷◌, drop, refl, ap, ap₂, ◌∙◌, ◌++◌, cond, Result, Ok, Err, arith}
use Rattle.std.specs.Prelude.{is_ok, OnOk}
use Rattle.std.specs.declared.alloc.AllocError.{AllocError}
use Rattle.std.specs.Int.{to_be_bytes, cast_unsigned}
use Rattle.std.specs.Int.{w128}
use Rattle.type_graph.specs.declared.width.Width.{Width}
use Rattle.type_graph.specs.declared.width.Width.TheVariants.{One, Two, Four, Eight}
use Rattle.type_graph.specs.declared.width.Order.TheVariants.{Big}
use Rattle.type_graph.specs.declared.node.Node.{Node}
use Rattle.type_graph.specs.declared.node.Node.TheVariants.{Integer}
use Rattle.type_graph.specs.Words.{octets_in, word}
use Rattle.type_graph.specs.Value.{IsNumber, number_width}

-- without a sign
pub low_octets_pos : (w : Width) (n : ℕ) → drop (16 - octets_in w) (to_be_bytes w128 (cast_unsigned w128 (pos n)))
    ≡ word Big w (pos n)
low_octets_pos One n = refl
low_octets_pos Two n = refl
low_octets_pos Four n = refl
low_octets_pos Eight n = refl

-- lists begin alike
begin : {a b : ℕ} {xs ys : List ℕ} → a ≡ b → xs ≡ ys → a ∷ xs ≡ b ∷ ys
begin e es = ap₂ (λ x l. x ∷ l) e es

-- below 0
pub low_octets_negsuc : (w : Width) (n : ℕ) → n < 2 ^ (8 * octets_in w - 1)
    → drop (16 - octets_in w) (to_be_bytes w128 (cast_unsigned w128 (negsuc n))) ≡ word Big w (negsuc n)
low_octets_negsuc One n h = begin (omega arith) refl
low_octets_negsuc Two n h = begin (omega arith) (begin (omega arith) refl)
low_octets_negsuc Four n h = begin (omega arith) (begin (omega arith) (begin (omega arith) (begin (omega arith) refl)))
low_octets_negsuc Eight n h =
    begin (omega arith) (begin (omega arith) (begin (omega arith) (begin (omega arith)
    (begin (omega arith) (begin (omega arith) (begin (omega arith) (begin (omega arith) refl)))))))

-- of a value of a node
pub low_octets : (node : Node) (n : ℤ) → IsNumber node n
    → drop (16 - octets_in (number_width node)) (to_be_bytes w128 (cast_unsigned w128 n))
    ≡ word Big (number_width node) n
low_octets node (pos n) h = low_octets_pos (number_width node) n
low_octets (Integer w true) (negsuc n) h = low_octets_negsuc w n h
low_octets (Integer w false) (negsuc n) h = absurd h
low_octets node (negsuc n) h = absurd h

-- what is put behind a list
pub added : {P : Type 0} (r : Result (Unit {0}) AllocError) (old new x y : List ℕ) → new ≡ cond (is_ok r) (old ++ x) old
    → (P → x ≡ y) → OnOk r (P → new ≡ old ++ y)
added (Ok u) old new x y e same = λ p. e ∙ ap (λ l. old ++ l) (same p)
added (Err f) old new x y e same = tt
