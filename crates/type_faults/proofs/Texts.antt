-- Tokens that say the same are spelled by the same definitions.
use Rattle.std.proofs.Common.{◌≡◌, ◌≤◌, ℕ, ◌+◌, Bool, true, false, List, [], ◌∷◌, Some, ap, map, refl, subst, sym, ◌⊎◌, inl, inr, Result, Ok, Err, IfOk}
use Rattle.std.specs.Prelude.{nat_eq, ◌≢◌}
use Rattle.idl_lexer.specs.declared.token.Token.{Token}
use Rattle.idl_lexer.specs.Tokens.{TokenParts, end_of, parts_of}
use Rattle.idl_tree.specs.declared.definitions.Definition.{Definition}
use Rattle.idl_tree.specs.Pieces.{Seen, Spell, is_end, past, seen_from}
use Rattle.idl_tree.specs.DefinitionLevels.{levels_of}
use Rattle.idl_parser.specs.declared.fault.ParseFault.{ParseFault}
use Rattle.idl_parser.specs.declared.fault.ParseFault.TheVariants.{NoMemory}
use Rattle.type_faults.specs.declared.reading.Reading.{Reading}
use Rattle.type_faults.specs.declared.reading.Reading.TheVariants.{Lowered, Refused, Nothing}
use Rattle.type_faults.specs.AllFaults.{HasNoTree, Reads}
use Rattle.type_faults.specs.inner.Searched.{IsUnread}
use Rattle.idl_tree.specs.DefinitionYields.{definitions_spelled}

abbrev touched : ℕ → List TokenParts → Bool
touched place [] = false
touched place (p ∷ ps) = nat_eq place p.start

abbrev seen_parts : ℕ → List TokenParts → List Seen
seen_parts n [] = []
seen_parts n (p ∷ ps) =
    record { kind = p.kind; text = p.text; token = (n, p); touches = touched p.«end» ps } ∷ seen_parts (n + 1) ps

by_parts : (n : ℕ) (ts : List Token) → seen_from n ts ≡ seen_parts n (map parts_of ts)
by_parts n [] = refl
by_parts n (t ∷ []) = refl
by_parts n (t ∷ u ∷ us) =
    ap (λ l. record { kind = t.kind; text = t.text.now; token = (n, parts_of t); touches = nat_eq (end_of t) u.start }
    ∷ l)
    (by_parts (n + 1) (u ∷ us))

same_seen : (ts us : List Token) → map parts_of ts ≡ map parts_of us → seen_from 0 ts ≡ seen_from 0 us
same_seen ts us e = rw (by_parts 0 ts, by_parts 0 us, e) refl

-- what spells tokens spells those that say the same
pub spells_too : (ts us : List Token) (definitions : List Definition) → map parts_of ts ≡ map parts_of us
    → Spell (definitions_spelled definitions) us → Spell (definitions_spelled definitions) ts
spells_too ts us definitions e spelled =
    subst (λ l. is_end (past (definitions_spelled definitions) (Some l)) ≡ true) (sym (same_seen ts us e)) spelled

-- nothing is spelled that says the same as tokens that no definitions spell
none_spelled : (ts : List Token) → ((ds : List Definition) → Spell (definitions_spelled ds) ts → levels_of ds ≤ 64 → ⊥)
    → HasNoTree (map parts_of ts)
none_spelled ts none = λ definitions tree.
    none definitions (spells_too ts tree.tokens definitions (sym tree.said_by) tree.spelled) tree.few

-- what the parser tells of tokens that it refuses
abbrev Refuses : List Token → ParseFault → Type 0
Refuses ts fault =
    (fault ≡ NoMemory) ⊎ ((ds : List Definition) → Spell (definitions_spelled ds) ts → levels_of ds ≤ 64 → ⊥)

no_tree : (ts : List Token) (fault : ParseFault) → fault ≢ NoMemory → Refuses ts fault → HasNoTree (map parts_of ts)
no_tree ts fault other (inl memory) = absurd (other memory)
no_tree ts fault other (inr none) = none_spelled ts none

read_own : (ts us : List Token) (fault : ParseFault) (r : Reading) → Refuses ts fault → IsUnread fault r
    → Reads ts (map parts_of us) r
read_own ts us fault Lowered refuses never = absurd never
read_own ts us fault (Refused found) refuses never = absurd never
read_own ts us fault Nothing refuses other = inr (inl (no_tree ts fault other refuses))

read_left : (ts us : List Token) (fault : ParseFault) (r : Reading) → Refuses us fault → IsUnread fault r
    → Reads ts (map parts_of us) r
read_left ts us fault Lowered refuses never = absurd never
read_left ts us fault (Refused found) refuses never = absurd never
read_left ts us fault Nothing refuses other = inr (inr (no_tree us fault other refuses))

pub unread_own : {E : Type 0} (ts us : List Token) (fault : ParseFault) (result : Result Reading E)
    → Refuses ts fault → IfOk result (IsUnread fault) → IfOk result (Reads ts (map parts_of us))
unread_own ts us fault (Ok r) refuses is = read_own ts us fault r refuses is
unread_own ts us fault (Err e) refuses is = tt

pub unread_left : {E : Type 0} (ts us : List Token) (fault : ParseFault) (result : Result Reading E)
    → Refuses us fault → IfOk result (IsUnread fault) → IfOk result (Reads ts (map parts_of us))
unread_left ts us fault (Ok r) refuses is = read_left ts us fault r refuses is
unread_left ts us fault (Err e) refuses is = tt
