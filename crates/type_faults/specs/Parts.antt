-- The parts of a specification, as its tokens show them: each declaration, attribute and operation, from its first
-- token to its semicolon, numbered from 0. Modules and interfaces are gone into: their heads, which end with a brace or
-- a semicolon, and the braces belong to no part. Nor do pragmas.
use Rattle.std.specs.Prelude.{ℕ, ◌+◌, ◌-◌, Bool, true, false, not, ◌&&◌, ◌||◌, nat_eq, nat_lt, if◌then◌else◌, List, [], ◌∷◌, length, map, codes}
use Rattle.std.specs.List.{list_any}
use Rattle.std.specs.Str.{bytes_eq}
use Rattle.idl_lexer.specs.declared.token.Kind.TheVariants.{Pragma}
use Rattle.idl_lexer.specs.declared.token.Token.{Token}
use Rattle.idl_lexer.specs.Tokens.{TokenParts, parts_of}
use Rattle.idl_tree.specs.Pieces.{kind_code}
use Rattle.type_faults.specs.declared.parts.Mode.{Mode}
use Rattle.type_faults.specs.declared.parts.Mode.TheVariants.{Between, Head, Within}
use Rattle.type_faults.specs.declared.parts.Scan.{Scan}

-- ---- where parts begin and end

abbrev pub is_text : List ℕ → TokenParts → Bool
is_text text t = bytes_eq text t.text

abbrev pub is_pragma : TokenParts → Bool
is_pragma t = nat_eq (kind_code Pragma) (kind_code t.kind)

-- the head of a module or an interface begins
abbrev pub begins_head : TokenParts → Bool
begins_head t = is_text (codes "module") t || is_text (codes "interface") t

abbrev pub ends_head : TokenParts → Bool
ends_head t = is_text (codes "{") t || is_text (codes ";") t

-- a part begins, where one may: neither what stands before it goes on nor a head begins
abbrev pub begins_part : TokenParts → Bool
begins_part t = not (is_pragma t || is_text (codes "}") t || is_text (codes ";") t || begins_head t)

-- a part ends with a semicolon outside of its own braces
abbrev pub ends_part : ℕ → TokenParts → Bool
ends_part depth t = is_text (codes ";") t && nat_eq depth 0

-- how many braces of a part are open behind the token
abbrev pub depth_behind : ℕ → TokenParts → ℕ
depth_behind depth t =
    (if is_text (codes "{") t then depth + 1 else if is_text (codes "}") t then depth - 1 else depth)

abbrev pub mode_behind : Mode → TokenParts → Mode
mode_behind Between t = (if begins_head t then Head else if begins_part t then Within 0 else Between)
mode_behind Head t = (if ends_head t then Between else Head)
mode_behind (Within depth) t = (if ends_part depth t then Between else Within (depth_behind depth t))

abbrev pub parts_behind : Scan → TokenParts → Mode → ℕ
parts_behind s t Between = s.parts
parts_behind s t Head = s.parts
parts_behind s t (Within depth) = (if ends_part depth t then s.parts + 1 else s.parts)

-- what is known behind the token: where the next one stands, and how many parts have ended
abbrev pub after : Scan → TokenParts → Scan
after s t = record { mode = mode_behind s.mode t; parts = parts_behind s t s.mode }

-- before the first token
abbrev pub begun : Scan
begun = record { mode = Between; parts = 0 }

-- the token stands in the part whose number is that of the parts before it
abbrev pub is_in_part : Mode → TokenParts → Bool
is_in_part Between t = begins_part t
is_in_part Head t = false
is_in_part (Within depth) t = true

-- ---- parts that are left out

-- such a part and all behind it, or one of these
abbrev pub is_left_out : ℕ → List ℕ → ℕ → Bool
is_left_out kept refused part = not (nat_lt part kept) || list_any (λ n. nat_eq n part) refused

-- a token in the place of one that is left out: a pragma, which declares nothing, at the same place
abbrev pub seen_as : Bool → TokenParts → TokenParts
seen_as true t =
    let text = codes "#pragma prefix \"\"" in
    record t { kind = Pragma; text = text; «end» = t.start + length text }
seen_as false t = t

abbrev pub without : ℕ → List ℕ → Scan → List TokenParts → List TokenParts
without kept refused s [] = []
without kept refused s (t ∷ ts) =
    seen_as (is_in_part s.mode t && is_left_out kept refused s.parts) t ∷ without kept refused (after s t) ts

-- the tokens without the parts from the number on, and without these
abbrev pub left : ℕ → List ℕ → List Token → List TokenParts
left kept refused tokens = without kept refused begun (map parts_of tokens)
