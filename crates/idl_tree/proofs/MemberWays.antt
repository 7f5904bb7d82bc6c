-- The ways over structures and unions lead over each of them.
use Rattle.std.proofs.Common.{◌≡◌, ◌∙◌, ℕ, suc, zero, ◌≤◌, ◌<◌, codes, Bool, true, false, not, List, [], ◌∷◌, ◌++◌, Some, length, ap, refl, arith}
use Rattle.std.specs.List.{flat_map}
use Rattle.idl_lexer.specs.declared.token.Kind.TheVariants.{Keyword, Punct}
use Rattle.idl_tree.specs.declared.names.Leaf.{Leaf}
use Rattle.idl_tree.specs.declared.names.Listed.{Listed}
use Rattle.idl_tree.specs.declared.types.Declarator.{Declarator}
use Rattle.idl_tree.specs.declared.types.Label.{Label}
use Rattle.idl_tree.specs.declared.types.SwitchType.{SwitchType}
use Rattle.idl_tree.specs.declared.types.SimpleType.{SimpleType}
use Rattle.idl_tree.specs.declared.types.EnumType.{EnumType}
use Rattle.idl_tree.specs.declared.types.TypeSpec.{TypeSpec, Simple, Struct, Union, Enum}
use Rattle.idl_tree.specs.declared.types.StructType.{StructType, StructType', Row_of-Member, end_of-Member, more_of-Member}
use Rattle.idl_tree.specs.declared.types.UnionType.{UnionType, UnionType', Row_of-Case, end_of-Case, more_of-Case}
use Rattle.idl_tree.specs.declared.types.Member.{Member}
use Rattle.idl_tree.specs.Pieces.{Piece, Seen, keyword, mark}
use Rattle.idl_tree.specs.Yields.{identifier}
use Rattle.idl_tree.specs.TypeYields.{simple_type_yield, enum_yield, switch_yield, type_yield, struct_yield, union_yield, members_yield, cases_yield, member_yield}
use Rattle.idl_tree.specs.Levels.{highest, highest_listed}
use Rattle.idl_tree.specs.TypeLevels.{simple_type_levels, switch_levels, label_levels, declarator_levels, type_levels, struct_levels, union_levels, members_levels, cases_levels, member_levels}
use Rattle.idl_tree.specs.Descent.{sees_mark, sees_word, repeated, no_brace, member_way, braced_way, struct_way, case_way, union_name_way, union_way, type_way}
use Rattle.idl_tree.proofs.Fronts.{Reads, split, reads_none}
use Rattle.idl_tree.proofs.Same.{is_in, Among, Any, Leads, leads_any, piece_among, piece_avoids}
use Rattle.idl_tree.proofs.TreeTypes.{TypeEnds, simple_type_begins, enum_begins}
use Rattle.idl_tree.proofs.TreeMembers.{types, union_begins, line_yield, behind_type, line_begins, case_front, behind_labels, behind_case_type, case_begins}
use Rattle.idl_tree.proofs.Takes.{Takes, front, front_on, front_next, last, last_next, takes_any, Shows, shows_first, shown_by, unseen, hides, choose, pass, piece_takes, piece_shows, Repeats, takes_repeated, goes_no, goes_yes, shorter_left}
use Rattle.idl_tree.proofs.TypeWays.{takes_simple_type, takes_declarator, takes_declarators, takes_named, takes_enum, takes_switch, takes_labels}

-- ---- a type

-- what is to be shown of a type
pub record TypeTaken (a : TypeSpec) : Type 0 where
  pub by : (room : ℕ) → type_levels a ≤ room → Takes (type_yield a) (λ t. type_way room t) TypeEnds

-- ---- members

takes_line : (room inner : ℕ) (t : TypeSpec) (ds : Listed Declarator) → TypeTaken t → type_levels t ≤ inner
    → highest_listed declarator_levels ds ≤ room
    → Takes (line_yield t ds) (λ u. member_way (λ v. type_way inner v) room u) Any
takes_line room inner t ds one few few' =
    last (front_on (front (one.by inner few)) (behind_type ds) (front (takes_declarators room ds few')))
    (piece_avoids Punct (codes ";") _ refl) (piece_takes Punct (codes ";"))

not_false : (b : Bool) → b ≡ false → not b ≡ true
not_false b e = ap not e

pub goes_where : {ms : List ℕ} (t : List Seen) → is_in ms 73 ≡ false → Among ms t → no_brace t ≡ true
goes_where {ms = ms} t h a = not_false _ (unseen Punct (codes "}") ms t h a)

-- the closing brace is next
pub record Brace (t : List Seen) : Type 0 where
  pub seen : sees_mark (codes "}") t ≡ true
  pub at : Among (73 ∷ []) t

pub brace_leads : {S : List Seen → Type 0} → Leads (mark (codes "}")) S Brace
brace_leads = record {
  by = λ t r h s. record {
    seen = (piece_shows Punct (codes "}") {S = Any}).by t r h tt;
    at = (piece_among Punct (codes "}") (73 ∷ []) refl {S = Any}).by t r h tt;
  };
}

pub stops_at : (t : List Seen) → Brace t → no_brace t ≡ false
stops_at t b = ap not b.seen

-- what is to be shown of members
record MembersTaken {n : _} (rest : Row_of-Member n) : Type 0 where
  pub by : (room : ℕ) → members_levels rest ≤ room → (fuel t r : List Seen) → Reads (members_yield rest) t r → Brace r
      → length t ≤ length fuel
      → repeated no_brace (λ v. member_way (λ w. type_way room w) room v) fuel t ≡ Some r

no_members : MembersTaken end_of-Member
no_members = record {
  by = λ room few fuel t r h b le. goes_no _ _ fuel t (ap no_brace (reads_none h) ∙ stops_at r b)
      ∙ ap Some (reads_none h);
}

more_members : {n : _} (t : TypeSpec) (ds : Listed Declarator) (rest : Row_of-Member n) → TypeTaken t
    → MembersTaken rest → MembersTaken (more_of-Member t ds rest)
more_members u ds rest one others = record {
  by = λ room few fuel t r h b le.
      let two = split (line_yield u ds) (members_yield rest) t r h in
      let m = two.middle in
      let took = (takes_line room room u ds one (omega (arith, few)) (omega (arith, few))).by t m two.front tt in
      goes_yes _ _ fuel t m r (goes_where t refl ((line_begins u ds).by t m two.front tt)) took
      (shorter_left refl (line_begins u ds) t m two.front) le
      (λ (left : List Seen) (lt : length m ≤ length left). others.by room (omega (arith, few)) left m r two.back b lt);
}

takes_members : (room : ℕ) {n : _} (rest : Row_of-Member n) → MembersTaken rest → members_levels rest ≤ room
    → Takes (members_yield rest) (λ u. repeated no_brace (λ v. member_way (λ w. type_way room w) room v) u u) Brace
takes_members room rest taken few = record { by = λ t r h b. taken.by room few t t r h b (omega arith) }

-- ---- structures

pub record StructTaken (a : StructType) : Type 0 where
  pub by : (left : ℕ) → struct_levels a ≤ suc left
      → Takes (struct_yield a) (λ t. struct_way (λ u. type_way left u) left t) Any

abbrev struct_yields : Leaf → TypeSpec → Listed Declarator → {n : _} → Row_of-Member n → List Piece
struct_yields id t ds rest = keyword (codes "struct") ++ identifier id ++ mark (codes "{") ++ line_yield t ds
    ++ members_yield rest ++ mark (codes "}")

takes_struct : (left : ℕ) (id : Leaf) (t : TypeSpec) (ds : Listed Declarator) {n : _} (rest : Row_of-Member n)
    → TypeTaken t → MembersTaken rest
    → type_levels t ≤ left → highest_listed declarator_levels ds ≤ left → members_levels rest ≤ left
    → Takes (struct_yields id t ds rest) (λ u. struct_way (λ v. type_way left v) left u) Any
takes_struct left id t ds rest one others few few' more =
    last (front_next (front_next
    (front_next (front (takes_named (codes "struct") id)) (front (piece_takes Punct (codes "{"))))
    (front (takes_line left left t ds one few few')))
    (front (takes_members left rest others more))) brace_leads (piece_takes Punct (codes "}"))

-- ---- cases

takes_case : (room : ℕ) (ls : Listed Label) (t : TypeSpec) (d : Declarator) → TypeTaken t
    → highest_listed label_levels ls ≤ room → type_levels t ≤ room → declarator_levels d ≤ room
    → Takes (case_front ls t d) (λ u. case_way (λ v. type_way room v) room u) Any
takes_case room ls t d one few few' more =
    last (front_on (front_on (front (takes_labels room ls few)) (behind_labels t) (front (one.by room few')))
    (behind_case_type d) (front (takes_declarator room d more)))
    (piece_avoids Punct (codes ";") _ refl) (piece_takes Punct (codes ";"))

record CasesTaken {n : _} (rest : Row_of-Case n) : Type 0 where
  pub by : (room : ℕ) → cases_levels rest ≤ room → (fuel t r : List Seen) → Reads (cases_yield rest) t r → Brace r
      → length t ≤ length fuel
      → repeated no_brace (λ v. case_way (λ w. type_way room w) room v) fuel t ≡ Some r

no_cases : CasesTaken end_of-Case
no_cases = record {
  by = λ room few fuel t r h b le. goes_no _ _ fuel t (ap no_brace (reads_none h) ∙ stops_at r b)
      ∙ ap Some (reads_none h);
}

more_cases : {n : _} (ls : Listed Label) (t : TypeSpec) (d : Declarator) (rest : Row_of-Case n) → TypeTaken t
    → CasesTaken rest → CasesTaken (more_of-Case ls t d rest)
more_cases ls u d rest one others = record {
  by = λ room few fuel t r h b le.
      let two = split (case_front ls u d) (cases_yield rest) t r h in
      let m = two.middle in
      let took = (takes_case room ls u d one (omega (arith, few)) (omega (arith, few)) (omega (arith, few))).by t m
      two.front tt in
      goes_yes _ _ fuel t m r (goes_where t refl ((case_begins ls u d).by t m two.front tt)) took
      (shorter_left refl (case_begins ls u d) t m two.front) le
      (λ (left : List Seen) (lt : length m ≤ length left). others.by room (omega (arith, few)) left m r two.back b lt);
}

takes_cases : (room : ℕ) {n : _} (rest : Row_of-Case n) → CasesTaken rest → cases_levels rest ≤ room
    → Takes (cases_yield rest) (λ u. repeated no_brace (λ v. case_way (λ w. type_way room w) room v) u u) Brace
takes_cases room rest taken few = record { by = λ t r h b. taken.by room few t t r h b (omega arith) }

-- ---- unions

pub record UnionTaken (a : UnionType) : Type 0 where
  pub by : (left : ℕ) → union_levels a ≤ suc left
      → Takes (union_yield a) (λ t. union_way (λ u. type_way left u) left t) Any

abbrev union_yields : Leaf → SwitchType → Listed Label → TypeSpec → Declarator → {n : _} → Row_of-Case n → List Piece
union_yields id switch ls t d rest =
    keyword (codes "union") ++ identifier id ++ keyword (codes "switch") ++ mark (codes "(")
    ++ switch_yield switch ++ mark (codes ")") ++ mark (codes "{") ++ case_front ls t d ++ cases_yield rest
    ++ mark (codes "}")

union_name : (id : Leaf)
    → Takes (keyword (codes "union") ++ identifier id ++ keyword (codes "switch") ++ mark (codes "(")) union_name_way
    Any
union_name id = last_next
    (front_next (front (takes_named (codes "union") id)) (front (piece_takes Keyword (codes "switch"))))
    (piece_takes Punct (codes "("))

takes_union : (left : ℕ) (id : Leaf) (switch : SwitchType) (ls : Listed Label) (t : TypeSpec) (d : Declarator) {n : _}
    (rest : Row_of-Case n) → TypeTaken t → CasesTaken rest
    → switch_levels switch ≤ left → highest_listed label_levels ls ≤ left → type_levels t ≤ left
    → declarator_levels d ≤ left → cases_levels rest ≤ left
    → Takes (union_yields id switch ls t d rest) (λ u. union_way (λ v. type_way left v) left u) Any
takes_union left id switch ls t d rest one others a b c e f =
    last (front_next (front_next
    (front_next (front_on (front_next (front (union_name id)) (front (takes_switch left switch a)))
    (piece_avoids Punct (codes ")") _ refl) (front (piece_takes Punct (codes ")"))))
    (front (piece_takes Punct (codes "{")))) (front (takes_case left ls t d one b c e)))
    (front (takes_cases left rest others f))) brace_leads (piece_takes Punct (codes "}"))

-- ---- all of them

simple_taken : (room : ℕ) (t : SimpleType) → simple_type_levels t ≤ room
    → Takes (simple_type_yield t) (λ u. type_way room u) TypeEnds
unfolding type_way
simple_taken zero t few =
    pass _ (hides Keyword (codes "struct") refl (leads_any (simple_type_begins t)))
    (pass _ (hides Keyword (codes "union") refl (leads_any (simple_type_begins t)))
    (pass _ (hides Keyword (codes "enum") refl (leads_any (simple_type_begins t))) (takes_simple_type 0 t few)))
simple_taken (suc left) t few =
    pass _ (hides Keyword (codes "struct") refl (leads_any (simple_type_begins t)))
    (pass _ (hides Keyword (codes "union") refl (leads_any (simple_type_begins t)))
    (pass _ (hides Keyword (codes "enum") refl (leads_any (simple_type_begins t)))
    (takes_simple_type (suc left) t few)))

enum_taken : (room : ℕ) (e : EnumType) → 1 ≤ room → Takes (enum_yield e) (λ u. type_way room u) TypeEnds
unfolding type_way
enum_taken zero e few = absurd (omega arith)
enum_taken (suc left) e few =
    pass _ (hides Keyword (codes "struct") refl (leads_any (enum_begins e)))
    (pass _ (hides Keyword (codes "union") refl (leads_any (enum_begins e)))
    (choose _ (shows_first _ (shows_first _ (shows_first _ (shows_first _ (piece_shows Keyword (codes "enum"))))))
    (takes_enum (suc left) e (omega arith))))

pub struct_shows : (s : StructType) {S : List Seen → Type 0}
    → Shows (struct_yield s) S (λ t. sees_word (codes "struct") t) true
struct_shows (StructType' id p t ds shape rest) =
    shows_first _ (shows_first _ (shows_first _ (shows_first _ (shows_first _ (piece_shows Keyword (codes "struct"))))))

pub union_shows : (u : UnionType) {S : List Seen → Type 0}
    → Shows (union_yield u) S (λ t. sees_word (codes "union") t) true
union_shows (UnionType' id switch p ls t d shape rest) =
    shows_first _ (shows_first _
    (shows_first _ (shows_first _
    (shows_first _ (shows_first _
    (shows_first _ (shows_first _ (shows_first _ (piece_shows Keyword (codes "union"))))))))))

struct_as_type : (s : StructType) → StructTaken s → (room : ℕ) → struct_levels s ≤ room → 0 < struct_levels s
    → Takes (struct_yield s) (λ u. type_way room u) TypeEnds
unfolding type_way
struct_as_type s taken zero few some = absurd (omega (arith, few, some))
struct_as_type s taken (suc left) few some = choose _ (struct_shows s) (takes_any (taken.by left few))

union_as_type : (s : UnionType) → UnionTaken s → (room : ℕ) → union_levels s ≤ room → 0 < union_levels s
    → Takes (union_yield s) (λ u. type_way room u) TypeEnds
unfolding type_way
union_as_type s taken zero few some = absurd (omega (arith, few, some))
union_as_type s taken (suc left) few some =
    pass _ (hides Keyword (codes "struct") refl (leads_any (union_begins s)))
    (choose _ (union_shows s) (takes_any (taken.by left few)))

pub some_struct : (s : StructType) → 0 < struct_levels s
some_struct (StructType' id p t ds shape rest) = omega arith

pub some_union : (s : UnionType) → 0 < union_levels s
some_union (UnionType' id switch p ls t d shape rest) = omega arith

mutual
  pub type_taken : (a : TypeSpec) → TypeTaken a
  type_taken (Simple t) = record { by = λ room few. simple_taken room t few }
  type_taken (Struct s) = record { by = λ room few. struct_as_type s (struct_taken s) room few (some_struct s) }
  type_taken (Union u) = record { by = λ room few. union_as_type u (union_taken u) room few (some_union u) }
  type_taken (Enum e) = record { by = λ room few. enum_taken room e few }

  pub struct_taken : (a : StructType) → StructTaken a
  struct_taken (StructType' id p t ds shape rest) = record {
    by = λ left few. takes_struct left id t ds rest (type_taken t) (members_taken rest) (omega (arith, few))
        (omega (arith, few)) (omega (arith, few));
  }

  members_taken : {n : _} (rest : Row_of-Member n) → MembersTaken rest
  members_taken end_of-Member = no_members
  members_taken (more_of-Member t ds rest) = more_members t ds rest (type_taken t) (members_taken rest)

  pub union_taken : (a : UnionType) → UnionTaken a
  union_taken (UnionType' id switch p ls t d shape rest) = record {
    by = λ left few. takes_union left id switch.value ls t d rest (type_taken t) (cases_taken rest) (omega (arith, few))
        (omega (arith, few)) (omega (arith, few)) (omega (arith, few)) (omega (arith, few));
  }

  cases_taken : {n : _} (rest : Row_of-Case n) → CasesTaken rest
  cases_taken end_of-Case = no_cases
  cases_taken (more_of-Case ls t d rest) = more_cases ls t d rest (type_taken t) (cases_taken rest)

-- ---- the members of an exception

members_repeat : (room : ℕ)
    → Repeats member_yield member_levels room no_brace (λ v. member_way (λ w. type_way room w) room v) types Any Brace
members_repeat room = record {
  takes = λ m few. takes_line room room m.member_type m.declarators (type_taken m.member_type) (omega (arith, few))
      (omega (arith, few));
  shows = λ m. shown_by (line_begins m.member_type m.declarators) (λ t. goes_where t refl);
  first = λ m. line_begins m.member_type m.declarators;
  some = refl;
  more = λ t a. tt;
  end = λ t a. tt;
  none = stops_at;
}

-- members, one or more, up to the closing brace
pub takes_braced : (room : ℕ) (m : Member) (ms : List Member) → highest member_levels (m ∷ ms) ≤ room
    → Takes (member_yield m ++ (flat_map member_yield ms ++ mark (codes "}")))
    (λ t. braced_way (λ u. member_way (λ v. type_way room v) room u) t) Any
takes_braced room m ms few =
    last_next (front (takes_line room room m.member_type m.declarators (type_taken m.member_type) (omega (arith, few))
    (omega (arith, few))))
    (last (front (takes_repeated (members_repeat room) ms (omega (arith, few)))) brace_leads
    (piece_takes Punct (codes "}")))
