-- What is left of tokens, one token after another; and that all of them are where no part is left out.
use Rattle.std.proofs.Common.{◌≡◌, ℕ, ◌+◌, ◌-◌, ◌<◌, ◌≤◌, Bool, true, false, ◌&&◌, List, [], ◌∷◌, ◌++◌, length, map, refl, arith, append_assoc, codes}
use Rattle.std.specs.Prelude.{if◌then◌else◌}
use Rattle.std.proofs.lemmas.List.{map-append, length-map}
use Rattle.idl_lexer.specs.declared.token.Token.{Token}
use Rattle.idl_lexer.specs.Tokens.{TokenParts, parts_of}
use Rattle.type_faults.specs.declared.parts.Mode.{Mode}
use Rattle.type_faults.specs.declared.parts.Mode.TheVariants.{Between, Head, Within}
use Rattle.type_faults.specs.declared.parts.Scan.{Scan}
use Rattle.type_faults.specs.Parts.{after, begins_head, begins_part, begun, depth_behind, ends_head, ends_part, is_in_part, is_left_out, is_text, left, mode_behind, parts_behind, seen_as, without}
use Rattle.type_faults.specs.inner.Searched.{depth_of}

-- one token more
pub left_step : (kept : ℕ) (refused : List ℕ) (s : Scan) (ls : List Token) (t x : Token) (ts : List Token)
    → parts_of x ≡ seen_as (is_in_part s.mode (parts_of t) && is_left_out kept refused s.parts) (parts_of t)
    → map parts_of (ls ++ x ∷ []) ++ without kept refused (after s (parts_of t)) (map parts_of ts)
    ≡ map parts_of ls ++ without kept refused s (map parts_of (t ∷ ts))
left_step kept refused s ls t x ts e =
    rw (
      map-append parts_of ls (x ∷ []),
      append_assoc (map parts_of ls) (parts_of x ∷ [])
          (without kept refused (after s (parts_of t)) (map parts_of ts)),
      e,
    ) refl

-- ---- how much more is known behind one token

if_shallow : (b : Bool) (x y : Mode) (n : ℕ) → depth_of x ≤ n → depth_of y ≤ n
    → depth_of (if b then x else y) ≤ n
if_shallow true x y n p q = p
if_shallow false x y n p q = q

if_small : (b : Bool) (x y n : ℕ) → x ≤ n → y ≤ n → (if b then x else y) ≤ n
if_small true x y n p q = p
if_small false x y n p q = q

depth_room : (depth : ℕ) (t : TokenParts) → depth_behind depth t ≤ depth + 1
depth_room depth t =
    if_small (is_text (codes "{") t) (depth + 1) _ (depth + 1) (omega arith)
    (if_small (is_text (codes "}") t) (depth - 1) depth (depth + 1) (omega arith) (omega arith))

pub mode_room : (mode : Mode) (t : TokenParts) → depth_of (mode_behind mode t) ≤ depth_of mode + 1
mode_room Between t =
    if_shallow (begins_head t) Head _ 1 (omega arith)
    (if_shallow (begins_part t) (Within 0) Between 1 (omega arith) (omega arith))
mode_room Head t = if_shallow (ends_head t) Between Head 1 (omega arith) (omega arith)
mode_room (Within depth) t =
    if_shallow (ends_part depth t) Between (Within (depth_behind depth t)) (depth + 1) (omega arith)
    (depth_room depth t)

part_room : (s : Scan) (mode : Mode) (t : TokenParts) → parts_behind s t mode ≤ s.parts + 1
part_room s Between t = omega arith
part_room s Head t = omega arith
part_room s (Within depth) t =
    if_small (ends_part depth t) (s.parts + 1) s.parts (s.parts + 1) (omega arith) (omega arith)

pub parts_room : (s : Scan) (t : TokenParts) → (after s t).parts ≤ s.parts + 1
parts_room s t = part_room s s.mode t

-- ---- where no part is left out

not_out : (kept part : ℕ) → part < kept → is_left_out kept [] part ≡ false
not_out kept part few = grind arith

as_it_is : (b c : Bool) (t : TokenParts) → c ≡ false → seen_as (b && c) t ≡ t
as_it_is true c t e = rw e refl
as_it_is false c t e = refl

nothing_out : (kept : ℕ) (s : Scan) (ts : List TokenParts) → s.parts + length ts ≤ kept → without kept [] s ts ≡ ts
nothing_out kept s [] few = refl
nothing_out kept s (t ∷ ts) few =
    let out : is_left_out kept [] s.parts ≡ false = not_out kept s.parts (omega arith) in
    let first : seen_as (is_in_part s.mode t && is_left_out kept [] s.parts) t ≡ t =
    as_it_is (is_in_part s.mode t) (is_left_out kept [] s.parts) t out in
    let rest : without kept [] (after s t) ts ≡ ts =
    nothing_out kept (after s t) ts (omega (arith, parts_room s t)) in
    λ i. first i ∷ rest i

pub all_left : (tokens : List Token) → left (length tokens) [] tokens ≡ map parts_of tokens
all_left tokens =
    nothing_out (length tokens) begun (map parts_of tokens) (omega (arith, length-map tokens parts_of))
