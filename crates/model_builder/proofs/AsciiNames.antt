-- Names and repository ids of a file are ASCII.
use Rattle.std.proofs.Common.{◌≡◌, ◌∙◌, ◌<◌, ◌⊎◌, inl, inr, ℕ, zero, suc, Bool, true, false, not, cond, nat_eq, List, [], ◌∷◌, ◌++◌, length, length-append, codes, take, drop, slice_get, Option, Some, None, Result, Ok, refl, sym, ap, subst, arith}
use Rattle.std.proofs.lemmas.Bool.Decides.{nat_tests}
use Rattle.std.specs.Prelude.{◌==◌, ◌||◌, if◌then◌else◌}
use Rattle.std.specs.Char.{is_ascii, is_ascii_digit}
use Rattle.std.specs.List.{AllByRecursion, flat_map, list_all}
use Rattle.std.specs.Str.{IsAscii, bytes_eq}
use Rattle.std.specs.Option.{option_map}
use Rattle.std.proofs.lemmas.Bool.{and_parts}
use Rattle.std.proofs.lemmas.Option.{slice_get_within}
use Rattle.std.proofs.lemmas.Str.{IsAscii-append, IsAscii-drop, IsAscii-take}
use Rattle.std.proofs.lemmas.Str.Ascii.{IsAscii-nil}
use Rattle.idl_lexer.specs.declared.token.Kind.{Kind}
use Rattle.idl_lexer.specs.declared.token.Kind.TheVariants.{Ident, Keyword, Punct, Number, CharLit, TextLit, Pragma}
use Rattle.idl_lexer.specs.Directives.{before_quote, from_quote, pragma_rest, pragma_word, quoted_text, version_number, version_place}
use Rattle.idl_lexer.specs.Forms.{HasForm}
use Rattle.idl_lexer.specs.Octets.{is_word, run}
use Rattle.idl_lexer.proofs.PragmaParts.{rest_ascii}
use Rattle.idl_tree.specs.declared.names.Leaf.{Leaf}
use Rattle.idl_tree.specs.declared.names.ScopedName.{ScopedName}
use Rattle.idl_tree.specs.Starts.{name_start, leaf_at as at}
use Rattle.idl_tree.specs.declared.definitions.Definition.{Definition}
use Rattle.name_table.specs.declared.entry.Base.{Base}
use Rattle.name_table.specs.declared.entry.Meaning.{Meaning}
use Rattle.name_table.specs.Entry.{Entry, around, name_in, named, prefix_in}
use Rattle.name_table.specs.Entries.{entry_declared, plain, scope_of, with_base}
use Rattle.name_table.specs.Search.{begins_at_root, identifiers_see, inherited, word}
use Rattle.name_table.specs.Features.{features_of}
use Rattle.name_table.proofs.Stability.{get_push_last, get_push_low}
use Rattle.idl_lexer.specs.Identifiers.{words as words_in}
use Rattle.idl_tree.specs.declared.names.At.{At}
use Rattle.scoped_names.specs.declared.fault.NameFault.{NameFault}
use Rattle.scoped_names.specs.Faults.{again_test, base_added, base_test, based, declared_as, declares_over, entry_in, free_of, free_test, given_once, left_open, never_defined, new_test, nothing_yet, prefix_set, said_read, specification_read, step_read, steps_read, taken_by, test_of, type_kind, undefined_test, with_base_at, with_declared, declared as declared_plain}
use Rattle.scoped_names.specs.IdPragmas.{Said, SetsPrefix, Gives, said_by, said_by_kind, said_by_word}
use Rattle.scoped_names.specs.Meanings.{const_meant, enum_meant, enumerator_meant, typedef_meant}
use Rattle.scoped_names.specs.Reading.{State, StateOrFault, passed, ◌>>◌}
use Rattle.scoped_names.specs.RepositoryIds.{GivenId, IdPragma, VersionOf, WholeId, given_in, given_to, id_by, idl_format, names_to, path, pragma_for, prefix_part, repository_id, with_slashes}
use Rattle.name_steps.specs.Steps.{Step, Declares, DeclaresConst, DeclaresFeature, DeclaresEnum, DeclaresEnumerator, DeclaresTypedef, HasBase, HasMember, Enters, Leaves, Defines, Says, steps_of}
use Rattle.scoped_names.specs.Tests.{found_at, resolved, value_of_type}
use Rattle.scoped_names.specs.TypeKinds.{const_type_kind}
use Rattle.scoped_names.specs.FileNames.{AreNames, FileNames, file_names}
use Rattle.scoped_names.proofs.Later.{bare, bare_base}
use Rattle.scoped_names.proofs.Introducing.{appears, below_or_last, passed_same, then_ok}
use Rattle.model_builder.proofs.EntryWords.{AreProper}

-- ---- words

word_low : (c : ℕ) → is_word c ≡ true → c < 128
word_low c h = grind (arith, nat_tests)

pub word_ascii : (w : List ℕ) → list_all is_word w ≡ true → IsAscii w
word_ascii [] h i = omega arith
word_ascii (c ∷ cs) h zero = word_low c (and_parts (is_word c) (list_all is_word cs) h).0
word_ascii (c ∷ cs) h (suc i) = word_ascii cs (and_parts (is_word c) (list_all is_word cs) h).1 i

-- ---- what pragmas say

abbrev GivenAscii : GivenId → Type 0
GivenAscii (WholeId text) = IsAscii text
GivenAscii (VersionOf text) = IsAscii text

abbrev SaidAscii : Said → Type 0
SaidAscii (SetsPrefix text) = IsAscii text
SaidAscii (Gives name given) = GivenAscii given

quoted_ascii : (s : List ℕ) → IsAscii s → IsAscii (quoted_text s)
quoted_ascii s h = IsAscii-take (drop 1 s) (run (λ c. not (c == 34)) (drop 1 s)) (IsAscii-drop s 1 h)

said_word_ascii : (word rest : List ℕ) → IsAscii rest → SaidAscii (said_by_word word rest)
said_word_ascii word rest h = by (bytes_eq word (codes "prefix")) (bytes_eq word (codes "ID"))
  where
    by : (a b : Bool) → SaidAscii (if a then SetsPrefix (quoted_text rest) else if b then
        Gives (before_quote rest) (WholeId (quoted_text (from_quote rest)))
        else Gives (take (version_place rest) rest) (VersionOf (version_number (drop (version_place rest) rest))))
    by true b = quoted_ascii rest h
    by false true = quoted_ascii (from_quote rest) (IsAscii-drop rest (run (λ c. not (c == 34)) rest) h)
    by false false =
        let number = drop (version_place rest) rest in
        IsAscii-take number (run (λ c. is_ascii_digit c || c == 46) number) (IsAscii-drop rest (version_place rest) h)

abbrev MaySay : Option Said → Type 0
MaySay None = Unit {0}
MaySay (Some s) = SaidAscii s

kind_ascii : (kind : Kind) (line : List ℕ) → HasForm kind line → MaySay (said_by_kind kind line)
kind_ascii Pragma line form = said_word_ascii (pragma_word line) (pragma_rest line) (rest_ascii line form)
kind_ascii Ident line form = tt
kind_ascii Keyword line form = tt
kind_ascii Punct line form = tt
kind_ascii Number line form = tt
kind_ascii CharLit line form = tt
kind_ascii TextLit line form = tt

said_ascii : (l : Leaf) → MaySay (said_by l)
said_ascii l = kind_ascii l.token.kind l.token.text.now l.token.form

-- ---- what is known

record IsPlain (st : State) : Type 0 where
  prefix : IsAscii st.prefix
  entries : (n : ℕ) (e : Entry) → slice_get st.entries n ≡ Some e → IsAscii e.prefix
  given : AllByRecursion (λ p. GivenAscii p.given) st.given

pushed : (es : List Entry) (x : Entry) → ((n : ℕ) (e : Entry) → slice_get es n ≡ Some e → IsAscii e.prefix)
    → IsAscii x.prefix
    → (n : ℕ) (e : Entry) → slice_get (es ++ x ∷ []) n ≡ Some e → IsAscii e.prefix
pushed es x all own n e h =
    let within = slice_get_within (es ++ x ∷ []) n e h in
    let long = length-append es (x ∷ []) in
    by (below_or_last n (length es) (omega arith))
  where
    by : (n < length es) ⊎ (length es ≡ n) → IsAscii e.prefix
    by (inl lt) = all n e (sym (get_push_low es x n lt) ∙ h)
    by (inr is) =
        let last : Some x ≡ Some e = sym (get_push_last es x) ∙ ap (slice_get (es ++ x ∷ [])) is ∙ h in
        let same : x ≡ e = cc in
        subst (λ y. IsAscii y.prefix) same own

declares_plain : (m : Meaning) (st next : State) (l : Leaf) (o : Option Entry) → declares_over m st l o ≡ Ok next
    → IsPlain st → IsPlain next
declares_plain m st next l None h p =
    let is : with_declared m st l ≡ next = cc in
    subst IsPlain is (record {
      prefix = p.prefix;
      entries = pushed st.entries (entry_declared m st.prefix st.scope l) p.entries p.prefix;
      given = p.given;
    })
declares_plain m st next l (Some e) h p = subst IsPlain (appears m.kind st next l e h).1 p

declared_keeps : (m : Meaning) (st next : State) (l : Leaf) → declared_as m st l ≡ Ok next → IsPlain st → IsPlain next
declared_keeps m st next l h p =
    let o = entry_in st.entries (named st.entries st.scope (word l)) in
    let (u, test, rest) = then_ok (free_test l (taken_by st (word l))) (λ u. declares_over m st l o) next h in
    declares_plain m st next l o rest p

given_once_plain : (ps qs : List IdPragma) (entry : ℕ) (given : GivenId) (here : At) (o : Option IdPragma)
    → given_once ps entry given here o ≡ Ok qs
    → AllByRecursion (λ p. GivenAscii p.given) ps → GivenAscii given → AllByRecursion (λ p. GivenAscii p.given) qs
given_once_plain ps qs entry given here None h all own =
    let is : ps ++ record { entry = entry; given = given; at = here } ∷ [] ≡ qs = cc in
    subst (AllByRecursion (λ p. GivenAscii p.given)) is (push ps all)
  where
    push : (xs : List IdPragma) → AllByRecursion (λ p. GivenAscii p.given) xs
        → AllByRecursion (λ p. GivenAscii p.given) (xs ++ record { entry = entry; given = given; at = here } ∷ [])
    push [] h = (own, tt)
    push (x ∷ xs) h = (h.0, push xs h.1)
given_once_plain ps qs entry given here (Some first) h all own =
    let (u, test, rest) = then_ok (again_test first.given first.at given here)
    (λ u. let r : Result (List IdPragma) NameFault = Ok ps in r) qs h in
    let is : ps ≡ qs = cc in
    subst (AllByRecursion (λ p. GivenAscii p.given)) is all

prefix_plain : (st next : State) (scope : ℕ) (text : List ℕ) (here : At) → prefix_set st scope text here ≡ Ok next
    → IsAscii text → IsPlain st → IsPlain next
prefix_plain st next zero text here h own p =
    let set : State = record st { prefix = text } in
    let is : set ≡ next = cc in
    subst IsPlain is (record { prefix = own; entries = p.entries; given = p.given })
prefix_plain st next (suc e) text here h own p = absurd cc

said_plain : (st next : State) (l : Leaf) (o : Option Said) → said_read st l o ≡ Ok next → MaySay o → IsPlain st
    → IsPlain next
said_plain st next l None h own p = let is : st ≡ next = cc in subst IsPlain is p
said_plain st next l (Some (SetsPrefix text)) h own p = prefix_plain st next st.scope text (at l) h own p
said_plain st next l (Some (Gives name given)) h own p =
    let (e, finds, h1) = then_ok
    (found_at st.entries (at l)
    (identifiers_see st.entries l.number st.scope (begins_at_root name) (words_in name)))
    (λ e. given_once st.given e given (at l) (pragma_for st.given e) >> λ ps. let r : StateOrFault =
    Ok (record st { given = ps }) in r) next h in
    let (ps, gives, h2) = then_ok (given_once st.given e given (at l) (pragma_for st.given e))
    (λ ps. let r : StateOrFault = Ok (record st { given = ps }) in r) next h1 in
    let more : State = record st { given = ps } in
    let is : more ≡ next = cc in
    subst IsPlain is (record {
      prefix = p.prefix;
      entries = p.entries;
      given = given_once_plain st.given ps e given (at l) (pragma_for st.given e) gives p.given own;
    })

-- entries that differ in their bases alone
like_plain : (es fs : List Entry) → ((k : ℕ) → option_map bare (slice_get fs k) ≡ option_map bare (slice_get es k))
    → ((n : ℕ) (e : Entry) → slice_get es n ≡ Some e → IsAscii e.prefix) → (n : ℕ) (e : Entry) → slice_get fs n ≡ Some e
    → IsAscii e.prefix
like_plain es fs like all n e h = by (slice_get es n) refl (sym (like n) ∙ ap (option_map bare) h)
  where
    by : (o : Option Entry) → slice_get es n ≡ o → option_map bare o ≡ Some (bare e) → IsAscii e.prefix
    by None is same = absurd cc
    by (Some y) is same =
        let alike : bare y ≡ bare e = cc in
        subst IsAscii (ap (λ x. x.prefix) alike) (all n y is)

base_plain : (st next : State) (inner : ℕ) (name : ScopedName) → base_added st inner name ≡ Ok next → IsPlain st
    → IsPlain next
base_plain st next inner name h p =
    let (e, finds, rest) = then_ok (resolved st.entries st.scope name)
    (λ e. with_base_at st inner (record { token = (name_start name).number; entry = e }) (at (name_start name)))
    next h in
    let base : Base = record { token = (name_start name).number; entry = e } in
    let (u, test, told) = then_ok (base_test st inner base (at (name_start name)))
    (λ u. let r : StateOrFault = Ok (based st inner base) in r) next rest in
    let is : based st inner base ≡ next = cc in
    subst IsPlain is (record {
      prefix = p.prefix;
      entries = like_plain st.entries (with_base st.entries inner base) (bare_base st.entries inner base) p.entries;
      given = p.given;
    })

step_plain : (st next : State) (s : Step) → step_read st s ≡ Ok next → IsPlain st → IsPlain next
step_plain st next (Declares kind l) h p = declared_keeps (plain l.number kind) st next l h p
step_plain st next (DeclaresEnum l) h p =
    let m = enum_meant (length st.entries) l in
    let (mid, declares, rest) =
    then_ok (declared_as m st l) (λ next. let r : StateOrFault =
    Ok (record next { enumeration = length st.entries }) in r) next h in
    let q = declared_keeps m st mid l declares p in
    let last : State = record mid { enumeration = length st.entries } in
    let is : last ≡ next = cc in
    subst IsPlain is (record { prefix = q.prefix; entries = q.entries; given = q.given })
step_plain st next (DeclaresEnumerator l) h p =
    declared_keeps (enumerator_meant st.enumeration (length st.entries) l) st next l h p
step_plain st next (DeclaresTypedef t d) h p =
    declared_keeps (typedef_meant (type_kind st t) d) st next d.identifier h p
step_plain st next (DeclaresConst c) h p =
    let (worth, is, rest) = then_ok
    (value_of_type (const_type_kind st.entries st.scope c.const_type) st.entries st.scope c.value.expr)
    (λ worth. declared_as (const_meant c worth) st c.identifier) next h in
    declared_keeps (const_meant c worth) st next c.identifier rest p
step_plain st next (DeclaresFeature kind l) h p =
    let (u, free, rest) = then_ok (free_of st.entries l (inherited (features_of st.entries) l.number st.scope (word l)))
    (λ u. declared_plain kind st l) next h in
    declared_keeps (plain l.number kind) st next l rest p
step_plain st next (HasMember l) h p =
    let more : State = record st { members = st.members ++ record { scope = st.scope; name = word l; at = at l } ∷ [] }
    in
    let (u, test, rest) = then_ok (new_test st l) (λ u. let r : StateOrFault = Ok more in r) next h in
    let is : more ≡ next = cc in
    subst IsPlain is (record { prefix = p.prefix; entries = p.entries; given = p.given })
step_plain st next (HasBase l name) h p = base_plain st next (scope_of st.entries st.scope l) name h p
step_plain st next (Enters l) h p =
    let inside : State = record st { scope = scope_of st.entries st.scope l } in
    let is : inside ≡ next = cc in
    subst IsPlain is (record { prefix = p.prefix; entries = p.entries; given = p.given })
step_plain st next (Defines l) h p =
    let more : State = record st { defined = st.defined ++ st.scope ∷ [] } in
    let (u, test, rest) = then_ok (undefined_test st st.scope l) (λ u. let r : StateOrFault = Ok more in r) next h in
    let is : more ≡ next = cc in
    subst IsPlain is (record { prefix = p.prefix; entries = p.entries; given = p.given })
step_plain st next Leaves h p =
    let outside : State = record st { scope = around st.entries st.scope } in
    let is : outside ≡ next = cc in
    subst IsPlain is (record { prefix = p.prefix; entries = p.entries; given = p.given })
step_plain st next (Says l) h p = said_plain st next l (said_by l) h (said_ascii l) p
step_plain st next s h p = subst IsPlain (passed_same st (test_of st s) next h) p

steps_plain : (st next : State) (steps : List Step) → steps_read st steps ≡ Ok next → IsPlain st → IsPlain next
steps_plain st next [] h p = let is : st ≡ next = cc in subst IsPlain is p
steps_plain st next (s ∷ steps) h p =
    let (mid, first, rest) = then_ok (step_read st s) (λ x. steps_read x steps) next h in
    steps_plain mid next steps rest (step_plain st mid s first p)

-- ---- a whole file

-- the prefixes of its entries, and what pragmas give to them
pub record SaysAscii (names : FileNames) : Type 0 where
  pub prefixes : (n : ℕ) (e : Entry) → slice_get names.entries n ≡ Some e → IsAscii e.prefix
  pub given : AllByRecursion (λ p. GivenAscii p.given) names.rules

pub says_ascii : (definitions : List Definition) (names : FileNames) → AreNames definitions names → SaysAscii names
says_ascii definitions names h =
    let (read, reads, is) = then_ok (specification_read definitions)
    (λ st. let r : Result FileNames NameFault = Ok (file_names st) in r) names h in
    let (st, steps, rest) = then_ok (steps_read nothing_yet (steps_of definitions))
    (λ st. passed st (never_defined (left_open st 0 st.entries))) read reads in
    let same = passed_same st (never_defined (left_open st 0 st.entries)) read rest in
    let whole_is : file_names st ≡ names = ap file_names same ∙ cc in
    let p = steps_plain nothing_yet st (steps_of definitions) steps
    (record { prefix = IsAscii-nil; entries = λ n e none. cc; given = tt }) in
    subst SaysAscii whole_is (record { prefixes = p.entries; given = p.given })

-- ---- texts of entries

pub name_ascii : (es : List Entry) → AreProper es → (n : ℕ) → IsAscii (name_in (slice_get es n))
name_ascii es proper n = by (slice_get es n) refl
  where
    by : (o : Option Entry) → slice_get es n ≡ o → IsAscii (name_in o)
    by None is = IsAscii-nil
    by (Some e) is = let w = proper.words n e is in word_ascii e.name w.word

prefix_ascii : (names : FileNames) → SaysAscii names → (n : ℕ) → IsAscii (prefix_in (slice_get names.entries n))
prefix_ascii names says n = by (slice_get names.entries n) refl
  where
    by : (o : Option Entry) → slice_get names.entries n ≡ o → IsAscii (prefix_in o)
    by None is = IsAscii-nil
    by (Some e) is = says.prefixes n e is

abbrev pub AllAscii : List (List ℕ) → Type 0
AllAscii ns = AllByRecursion IsAscii ns

pub names_ascii : (es : List Entry) → AreProper es → (k s : ℕ) → AllAscii (names_to es k s)
names_ascii es proper zero s = tt
names_ascii es proper (suc k) zero = tt
names_ascii es proper (suc k) (suc e) =
    push (names_to es k (around es (suc e))) (names_ascii es proper k (around es (suc e)))
  where
    push : (ns : List (List ℕ)) → AllAscii ns → AllAscii (ns ++ name_in (slice_get es e) ∷ [])
    push [] h = (name_ascii es proper e, tt)
    push (n ∷ ns) h = (h.0, push ns h.1)

-- a text that is plain to see
pub told_ascii : (text : List ℕ) → list_all is_ascii text ≡ true → IsAscii text
told_ascii [] h i = omega arith
told_ascii (c ∷ cs) h zero = low c (and_parts (is_ascii c) (list_all is_ascii cs) h).0
  where
    low : (c : ℕ) → is_ascii c ≡ true → c < 128
    low c h = grind (arith, nat_tests)
told_ascii (c ∷ cs) h (suc i) = told_ascii cs (and_parts (is_ascii c) (list_all is_ascii cs) h).1 i

slashes_ascii : (ns : List (List ℕ)) → AllAscii ns → IsAscii (with_slashes ns)
slashes_ascii [] h = IsAscii-nil
slashes_ascii (n ∷ ns) h = IsAscii-append n (flat_map (λ m. codes "/" ++ m) ns) h.0 (rest ns h.1)
  where
    rest : (ns : List (List ℕ)) → AllAscii ns → IsAscii (flat_map (λ m. codes "/" ++ m) ns)
    rest [] h = IsAscii-nil
    rest (n ∷ ns) h = IsAscii-append (codes "/" ++ n) (flat_map (λ m. codes "/" ++ m) ns)
        (IsAscii-append (codes "/") n (told_ascii (codes "/") refl) h.0) (rest ns h.1)

part_ascii : (prefix : List ℕ) → IsAscii prefix → IsAscii (prefix_part prefix)
part_ascii [] h = IsAscii-nil
part_ascii (c ∷ cs) h = IsAscii-append (c ∷ cs) (codes "/") h (told_ascii (codes "/") refl)

format_ascii : (prefix : List ℕ) (ns : List (List ℕ)) (version : List ℕ) → IsAscii prefix → AllAscii ns
    → IsAscii version → IsAscii (idl_format prefix ns version)
format_ascii prefix ns version p n v =
    let first = IsAscii-append (codes "IDL:") (prefix_part prefix) (told_ascii (codes "IDL:") refl)
    (part_ascii prefix p) in
    let second = IsAscii-append (codes "IDL:" ++ prefix_part prefix) (with_slashes ns) first (slashes_ascii ns n) in
    let third = IsAscii-append (codes "IDL:" ++ prefix_part prefix ++ with_slashes ns) (codes ":") second
    (told_ascii (codes ":") refl) in
    IsAscii-append (codes "IDL:" ++ prefix_part prefix ++ with_slashes ns ++ codes ":") version third v

abbrev MayGive : Option GivenId → Type 0
MayGive None = Unit {0}
MayGive (Some g) = GivenAscii g

given_ascii : (ps : List IdPragma) → AllByRecursion (λ p. GivenAscii p.given) ps → (e : ℕ) → MayGive (given_to ps e)
given_ascii [] h e = tt
given_ascii (p ∷ ps) h e = by (nat_eq e p.entry) (given_ascii ps h.1 e)
  where
    by : (b : Bool) → MayGive (given_to ps e) → MayGive (given_in (cond b (Some p) (pragma_for ps e)))
    by true rest = h.0
    by false rest = rest

id_ascii_by : (o : Option GivenId) (prefix : List ℕ) (ns : List (List ℕ)) → MayGive o → IsAscii prefix → AllAscii ns
    → IsAscii (id_by o prefix ns)
id_ascii_by None prefix ns g p n = format_ascii prefix ns (codes "1.0") p n (told_ascii (codes "1.0") refl)
id_ascii_by (Some (WholeId text)) prefix ns g p n = g
id_ascii_by (Some (VersionOf number)) prefix ns g p n = format_ascii prefix ns number p n g

pub id_ascii : (names : FileNames) → AreProper names.entries → SaysAscii names → (e : ℕ)
    → IsAscii (repository_id names.entries names.rules e)
id_ascii names proper says e =
    id_ascii_by (given_to names.rules e) (prefix_in (slice_get names.entries e)) (path names.entries e)
    (given_ascii names.rules says.given e)
    (prefix_ascii names says e) (names_ascii names.entries proper (suc e) (suc e))
