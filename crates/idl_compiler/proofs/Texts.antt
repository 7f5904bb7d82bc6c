-- Tokens that say the same are spelled by the same definitions.
use Rattle.std.proofs.Common.{◌≡◌, ◌≤◌, ℕ, ◌+◌, Bool, true, false, List, [], ◌∷◌, Some, ap, map, refl, subst, sym}
use Rattle.std.specs.Prelude.{nat_eq}
use Rattle.idl_lexer.specs.declared.token.Token.{Token}
use Rattle.idl_lexer.specs.Tokens.{TokenParts, end_of, parts_of}
use Rattle.idl_tree.specs.declared.definitions.Definition.{Definition}
use Rattle.idl_tree.specs.Pieces.{Seen, Spell, is_end, past, seen_from}
use Rattle.idl_tree.specs.DefinitionYields.{definitions_spelled}
use Rattle.idl_tree.specs.DefinitionLevels.{levels_of}

abbrev touched : ℕ → List TokenParts → Bool
touched place [] = false
touched place (p ∷ ps) = nat_eq place p.start

abbrev seen_parts : ℕ → List TokenParts → List Seen
seen_parts n [] = []
seen_parts n (p ∷ ps) = record { kind = p.kind; text = p.text; token = (n, p); touches = touched p.«end» ps }
    ∷ seen_parts (n + 1) ps

by_parts : (n : ℕ) (ts : List Token) → seen_from n ts ≡ seen_parts n (map parts_of ts)
by_parts n [] = refl
by_parts n (t ∷ []) = refl
by_parts n (t ∷ u ∷ us) =
    ap (λ l. record { kind = t.kind; text = t.text.now; token = (n, parts_of t); touches = nat_eq (end_of t) u.start }
    ∷ l) (by_parts (n + 1) (u ∷ us))

same_seen : (ts us : List Token) → map parts_of ts ≡ map parts_of us → seen_from 0 ts ≡ seen_from 0 us
same_seen ts us e = rw (by_parts 0 ts, by_parts 0 us, e) refl

-- what spells tokens spells those that say the same
pub spells_too : (ts us : List Token) (definitions : List Definition) → map parts_of ts ≡ map parts_of us
    → Spell (definitions_spelled definitions) us → Spell (definitions_spelled definitions) ts
spells_too ts us definitions e spelled =
    subst (λ l. is_end (past (definitions_spelled definitions) (Some l)) ≡ true) (sym (same_seen ts us e)) spelled

pub no_text : (ts us : List Token) (definitions : List Definition) → map parts_of ts ≡ map parts_of us
    → ((ds : List Definition) → Spell (definitions_spelled ds) ts → levels_of ds ≤ 64 → ⊥)
    → Spell (definitions_spelled definitions) us → levels_of definitions ≤ 64 → ⊥
no_text ts us definitions e none spelled few =
    none definitions (spells_too ts us definitions e spelled) few
