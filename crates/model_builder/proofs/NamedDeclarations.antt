-- Declarations of types, constants and exceptions: the names of each node that they are lowered to are apart, and one
-- for one for its parts.
use Rattle.std.proofs.Common.{◌≡◌, ◌∙◌, ℕ, ◌+◌, true, false, Bool, List, [], ◌∷◌, ◌++◌, length, map, slice_index, codes, append_assoc, append-nil, refl, sym, ap, subst}
use Rattle.std.proofs.Common.{arith}
use Rattle.std.proofs.lemmas.Bool.Decides.{nat_tests}
use Rattle.std.specs.Char.{is_ascii_alphabetic, to_ascii_lowercase}
use Rattle.std.specs.List.{AllByRecursion, IsDistinct, flat_map}
use Rattle.std.specs.Str.{str_eq_ignore_ascii_case}
use Rattle.std.proofs.lemmas.Slice.Eq.{bytes_eq-Decides}
use Rattle.idl_tree.specs.declared.names.At.{At}
use Rattle.idl_tree.specs.declared.types.Declarator.{Declarator}
use Rattle.idl_tree.specs.declared.types.Member.{Member}
use Rattle.idl_tree.specs.declared.definitions.TypeDcl.{TypeDcl}
use Rattle.idl_tree.specs.declared.definitions.TypeDcl.TheVariants as TypeDcls
use Rattle.idl_tree.specs.declared.definitions.Except.{Except}
use Rattle.idl_tree.specs.declared.definitions.Declaration.{Declaration}
use Rattle.idl_tree.specs.declared.definitions.Declaration.TheVariants as Declarations
use Rattle.idl_tree.specs.declared.names.Leaf.{Leaf}
use Rattle.idl_tree.specs.Lists.{parts}
use Rattle.idl_tree.specs.Starts.{leaf_at}
use Rattle.idl_tree.specs.declared.kinds.EntryKind.TheVariants as Kinds
use Rattle.type_graph.specs.declared.node.Node.TheVariants.{Frame}
use Rattle.name_table.specs.Entry.{Entry}
use Rattle.scoped_names.specs.Introductions.{Introduction, introduced}
use Rattle.name_steps.specs.Steps.{Declares, Enters, Leaves as LeavesScope, declaration_steps, declarator_steps, except_steps, member_steps, type_dcl_steps, type_steps, typedef_steps}
use Rattle.name_steps.proofs.Asks.{member_asks}
use Rattle.scoped_names.proofs.Parts.{Closed, closed, each_closed}
use Rattle.type_model.specs.PartNamesNames.{AreApart}
use Rattle.lowered_types.specs.declared.place.Place.TheVariants.{Typed}
use Rattle.lowered_types.specs.Faults.{each}
use Rattle.lowered_types.specs.Lowered.{Lowered, added, already, counted, opened}
use Rattle.lowered_types.specs.SimpleTypes.{array_type, const_type, declarator_at, entry_of, enum_type}
use Rattle.lowered_types.specs.Types.{WithMembers, struct_type, type_spec, union_type, with_member, with_members_of}
use Rattle.lowered_types.specs.Declarations.{ahead, declaration, except, exception_added, id_member, type_dcl, with_typedef}
use Rattle.model_builder.proofs.EntryWords.{IsNameWord, IsNamedByWord, name_word}
use Rattle.model_builder.proofs.Good.{Good, good_both, good_each, good_tail}
use Rattle.model_builder.proofs.NamedNodes.{Has, HasAll, Leaves, added_named, and_then, behind, counted_named, opened_named, placed_named, raised_named}
use Rattle.model_builder.proofs.NamedTypes.{HasMembers, added_members, array_named, const_named, enum_named, spec_named, struct_named, union_named}
use Rattle.model_builder.proofs.Picked.{Picked, picked_all, picked_apart}
use Rattle.model_builder.proofs.PickedNames.{each_picked, good_in, member_picked, names_in, number_of, type_closed}

-- ---- names with an underscore in front

-- a name without one is none of them
lower_letter : (c : ℕ) → is_ascii_alphabetic c ≡ true → to_ascii_lowercase c ≡ 95 → ⊥
lower_letter c h is = grind (arith, nat_tests)

other_word : (own n : List ℕ) → slice_index (map to_ascii_lowercase own) 0 ≡ 95
    → is_ascii_alphabetic (slice_index n 0) ≡ true → str_eq_ignore_ascii_case own n ≡ false
other_word own [] marks h = absurd cc
other_word own (c ∷ cs) marks h = by (str_eq_ignore_ascii_case own (c ∷ cs)) refl
  where
    by : (b : Bool) → str_eq_ignore_ascii_case own (c ∷ cs) ≡ b → b ≡ false
    by false is = refl
    by true is =
        let same = (bytes_eq-Decides (map to_ascii_lowercase own) (map to_ascii_lowercase (c ∷ cs))).0 is in
        absurd (lower_letter c h (sym (ap (λ l. slice_index l 0) same) ∙ marks))

letters_other : (own : List ℕ) → slice_index (map to_ascii_lowercase own) 0 ≡ 95 → (ns : List (List ℕ))
    → AllByRecursion IsNameWord ns
    → AllByRecursion (λ n. str_eq_ignore_ascii_case own n ≡ false) ns
letters_other own marks [] h = tt
letters_other own marks (n ∷ ns) (h, hs) = (other_word own n marks h.letter, letters_other own marks ns hs)

pub marked_apart : (own : List ℕ) → slice_index (map to_ascii_lowercase own) 0 ≡ 95 → (ns : List (List ℕ))
    → AllByRecursion IsNameWord ns → AreApart ns → AreApart (own ∷ ns)
unfolding IsDistinct
marked_apart own marks ns words apart = (letters_other own marks ns words, apart)

pub picked_words : (s : ℕ) (ns : List (List ℕ)) (xs : List Introduction) → AllByRecursion IsNamedByWord xs
    → Picked s ns xs → AllByRecursion IsNameWord ns
picked_words s ns xs words picked =
    picked_all IsNamedByWord IsNameWord s (λ l form. name_word l.token.text.now form) ns xs words picked

-- ---- exceptions

abbrev member_names : Member → List (List ℕ)
member_names x = names_in x.declarators

member_steps_closed : (x : Member) → Closed (member_steps x)
member_steps_closed x = closed (member_asks {ls = []} x)

member_named : (es : List Entry) (scope : ℕ) (names : List (List ℕ)) (m : WithMembers) (x : Member) → HasMembers names m
    → Good es scope (member_steps x)
    → Leaves (HasMembers (names ++ member_names x)) (with_member es scope m x)
member_named es scope names m x h g =
    let at = declarator_at x.declarators.first in
    let typed = (good_both es scope (type_steps x.member_type) (flat_map declarator_steps (parts x.declarators))
    (type_closed x.member_type) g).0 in
    added_members es scope names m.members (type_spec es m.lowered scope at x.member_type) x.declarators h.members
    (spec_named es m.lowered scope at x.member_type h.has typed)

each_member_named : (es : List Entry) (scope : ℕ) (names : List (List ℕ)) (m : WithMembers) (xs : List Member)
    → HasMembers names m
    → AllByRecursion (λ x. Good es scope (member_steps x)) xs
    → Leaves (HasMembers (names ++ flat_map member_names xs)) (each (with_member es scope) m xs)
each_member_named es scope names m [] h all = subst (λ ns. HasMembers ns m) (sym (append-nil names)) h
each_member_named es scope names m (x ∷ xs) h (g, all) =
    let more = names ++ member_names x in
    and_then (HasMembers more) (HasMembers (names ++ flat_map member_names (x ∷ xs))) (with_member es scope m x) _
    (member_named es scope names m x h g) (λ next k.
    subst (λ ns. Leaves (HasMembers ns) (each (with_member es scope) next xs))
    (append_assoc names (member_names x) (flat_map member_names xs))
    (each_member_named es scope more next xs k all))

exception_named : (m : WithMembers) (names : List (List ℕ)) (e : ℕ) (at : At) → HasMembers names m → AreApart names
    → Leaves Has (exception_added m e at)
exception_named m names e at h apart =
    let numbers = m.members.numbers in
    and_then Has Has (counted m.lowered (length numbers) at) _ (counted_named m.lowered (length numbers) at h.has)
    (λ w k.
    and_then HasAll Has (added w (Frame numbers) m.members.names (record { at = at; held = m.members.sites })) _
    (added_named w (Frame numbers) m.members.names (record { at = at; held = m.members.sites }) k
    (subst AreApart (sym h.members.are) apart) h.members.long) (λ frame has.
    raised_named frame.lowered e frame.number has))

except_named : (es : List Entry) (w : Lowered) (scope : ℕ) (x : Except) → Has w → Good es scope (except_steps x)
    → Leaves Has (except es w scope x)
except_named es w scope x h g =
    let id = x.identifier in
    let ms = x.members.items in
    let body = flat_map member_steps ms in
    let head = good_tail es scope (Declares Kinds.Exception id) (Enters id ∷ body ++ LeavesScope ∷ []) tt g in
    let (n, is) = number_of es scope id Kinds.Exception head.0.entries.0 in
    let body_closed : Closed body = each_closed member_steps member_steps_closed ms in
    let names = flat_map member_names ms in
    let own : WithMembers = with_members_of w (id_member (leaf_at id)) in
    let first : HasMembers (codes "_id" ∷ []) own = record { has = h; members = record { long = refl; are = refl } } in
    behind Has (entry_of es scope id) _ (λ e told.
    let inner = e + 1 in
    let good = good_in es scope id body n e body_closed is told head.1 in
    let picked = each_picked es inner inner member_steps member_names member_steps_closed
    (λ m k. member_picked es inner m.member_type m.declarators k) ms good in
    let apart = marked_apart (codes "_id") refl names
    (picked_words inner names (introduced es inner body) good.words picked)
    (picked_apart inner names (introduced es inner body) good.apart picked) in
    and_then (HasMembers (codes "_id" ∷ names)) Has (each (with_member es inner) own ms) _
    (each_member_named es inner (codes "_id" ∷ []) own ms first
    (good_each es inner member_steps member_steps_closed ms good))
    (λ m all. exception_named m (codes "_id" ∷ names) e (leaf_at id) all apart))

-- ---- declarations

typedef_named : (es : List Entry) (scope number : ℕ) (w : Lowered) (d : Declarator) → Has w
    → Leaves Has (with_typedef es scope number w d)
typedef_named es scope number w d h =
    and_then HasAll Has (array_type es scope (already w number) d) _ (array_named es scope (already w number) d h)
    (λ a k.
    behind Has (entry_of es scope d.identifier) _ (λ e told. placed_named a.lowered e (Typed a.number) k))

typedefs_named : (es : List Entry) (scope number : ℕ) (w : Lowered) (ds : List Declarator) → Has w
    → Leaves Has (each (with_typedef es scope number) w ds)
typedefs_named es scope number w [] h = h
typedefs_named es scope number w (d ∷ ds) h =
    and_then Has Has (with_typedef es scope number w d) _ (typedef_named es scope number w d h)
    (λ next k. typedefs_named es scope number next ds k)

ahead_named : (es : List Entry) (w : Lowered) (scope : ℕ) (id : Leaf) → Has w → Leaves Has (ahead es w scope id)
ahead_named es w scope id h =
    behind Has (entry_of es scope id) _
    (λ e told. and_then HasAll Has (opened w e (leaf_at id)) _ (opened_named w e (leaf_at id) h) (λ o k. k))

type_dcl_named : (es : List Entry) (w : Lowered) (scope : ℕ) (t : TypeDcl) → Has w → Good es scope (type_dcl_steps t)
    → Leaves Has (type_dcl es w scope t)
type_dcl_named es w scope (TypeDcls.Typedef t ds) h g =
    let at = declarator_at ds.first in
    let typed = (good_both es scope (type_steps t) (flat_map (typedef_steps t) (parts ds)) (type_closed t) g).0 in
    and_then HasAll Has (type_spec es w scope at t) _ (spec_named es w scope at t h typed)
    (λ n k. typedefs_named es scope n.number n.lowered (parts ds) k)
type_dcl_named es w scope (TypeDcls.Struct s) h g =
    and_then HasAll Has (struct_type es w scope s) _ (struct_named es w scope s h g) (λ n k. k)
type_dcl_named es w scope (TypeDcls.Union u) h g =
    and_then HasAll Has (union_type es w scope u) _ (union_named es w scope u h g) (λ n k. k)
type_dcl_named es w scope (TypeDcls.Enum e) h g =
    and_then HasAll Has (enum_type es w scope e) _ (enum_named es w scope e h g) (λ n k. k)
type_dcl_named es w scope (TypeDcls.StructAhead id) h g = ahead_named es w scope id h
type_dcl_named es w scope (TypeDcls.UnionAhead id) h g = ahead_named es w scope id h

pub declaration_named : (es : List Entry) (w : Lowered) (scope : ℕ) (x : Declaration) → Has w
    → Good es scope (declaration_steps x) → Leaves Has (declaration es w scope x)
declaration_named es w scope (Declarations.TypeDcl t) h g = type_dcl_named es w scope t h g
declaration_named es w scope (Declarations.Const c) h g =
    and_then HasAll Has (const_type es w scope c.const_type) _ (const_named es w scope c.const_type h) (λ n k. k)
declaration_named es w scope (Declarations.Except x) h g = except_named es w scope x h g
