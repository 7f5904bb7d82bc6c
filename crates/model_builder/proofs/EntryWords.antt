-- What the entries of a file are called: each has a word, and is the one that its scope and its word find.
use Rattle.std.proofs.Common.{◌≡◌, ◌∙◌, ◌<◌, ◌+◌, inl, inr, ℕ, zero, suc, Bool, true, false, List, [], ◌∷◌, ◌++◌, length, drop, slice_get, slice_index, Some, refl, sym, ap, subst, arith}
use Rattle.std.proofs.lemmas.Bool.Decides.{nat_tests}
use Rattle.std.specs.Prelude.{◌==◌, if◌then◌else◌, slice_index_or}
use Rattle.std.specs.Char.{is_ascii_alphabetic}
use Rattle.std.specs.List.{AllByRecursion, list_all}
use Rattle.std.proofs.Math.Logic.{∥∥₁_elim}
use Rattle.std.proofs.Props.{props}
use Rattle.std.proofs.lemmas.List.Sums.{list_all-from_AllPass, prefix_len_passes}
use Rattle.std.proofs.lemmas.Option.{slice_get_within}
use Rattle.idl_lexer.specs.declared.token.Kind.TheVariants.{Ident}
use Rattle.idl_lexer.specs.Forms.{HasForm}
use Rattle.idl_lexer.specs.Octets.{is_word, run}
use Rattle.idl_lexer.specs.Words.{IsIdentifier, unescaped}
use Rattle.idl_tree.specs.declared.names.Leaf.{Leaf}
use Rattle.idl_tree.specs.declared.spec.Spec.{Spec}
use Rattle.idl_tree.specs.Forms.{HaveForms, IsLeafOf}
use Rattle.idl_tree.specs.Pieces.{Piece, kept}
use Rattle.idl_tree.specs.Yields.{const_expr_yield, identifier}
use Rattle.idl_tree.specs.DefinitionYields.{definitions_spelled}
use Rattle.idl_tree.proofs.SpelledForms.{HaveForms-append, Spec-forms}
use Rattle.name_table.specs.Entry.{AreNested, Entry, named}
use Rattle.name_table.specs.Search.{word}
use Rattle.name_steps.specs.Asked.{asked, asked_by, is_asked, pieces_of}
use Rattle.scoped_names.specs.Introductions.{Introduction, Stands, Has, Body, IsEntry, StandsFor, introduced, introduced_by, scope_behind}
use Rattle.name_steps.specs.Steps.{Step, Declares, DeclaresEnum, DeclaresEnumerator, DeclaresTypedef, DeclaresConst, DeclaresFeature, HasMember, Defines, steps_of}
use Rattle.scoped_names.specs.FileNames.{AreNames, FileNames}
use Rattle.name_steps.proofs.Asked.{all_asked}
use Rattle.scoped_names.proofs.Introduced.{declared_once, nothing_else}
use Rattle.scoped_names.proofs.Introducing.{named_entry}
use Rattle.model_builder.proofs.Nested.{entries_nested}

-- ---- words

-- a letter, and behind it letters, digits and underscores
pub record IsNameWord (w : List ℕ) : Type 0 where
  pub letter : is_ascii_alphabetic (slice_index w 0) ≡ true
  pub word : list_all is_word w ≡ true

all_run : (w : List ℕ) → length w ≡ run is_word w → list_all is_word w ≡ true
all_run w h = list_all-from_AllPass is_word w (λ k d lt. prefix_len_passes is_word w k d (omega arith))

plain_same : (w : List ℕ) → is_ascii_alphabetic (slice_index w 0) ≡ true → unescaped w ≡ w
plain_same [] h = refl
plain_same (c ∷ cs) h =
    let other : (c == 95) ≡ false = grind (arith, nat_tests) in
    ap (λ b. if b then cs else c ∷ cs) other

escaped_rest : (w : List ℕ) → slice_index w 0 ≡ 95 → unescaped w ≡ drop 1 w
escaped_rest [] h = refl
escaped_rest (c ∷ cs) h =
    let same : (c == 95) ≡ true = grind (arith, nat_tests) in
    ap (λ b. if b then cs else c ∷ cs) same

drop_length : (w : List ℕ) (n : ℕ) → length w ≡ n + 1 → length (drop 1 w) ≡ n
drop_length [] n h = absurd (omega arith)
drop_length (c ∷ cs) n h = omega arith

identifier_letter : (text : List ℕ) → IsIdentifier text (length text)
    → is_ascii_alphabetic (slice_index (unescaped text) 0) ≡ true
identifier_letter text (inl plain) = ap (λ w. is_ascii_alphabetic (slice_index w 0)) (plain_same text plain.word.first)
    ∙ plain.word.first
identifier_letter text (inr escaped) =
    ap (λ w. is_ascii_alphabetic (slice_index w 0)) (escaped_rest text escaped.underscore) ∙ escaped.word.first

identifier_word : (text : List ℕ) → IsIdentifier text (length text) → list_all is_word (unescaped text) ≡ true
identifier_word text (inl plain) = ap (list_all is_word) (plain_same text plain.word.first)
    ∙ all_run text plain.word.whole
identifier_word text (inr escaped) =
    ap (list_all is_word) (escaped_rest text escaped.underscore)
    ∙ all_run (drop 1 text) (drop_length text escaped.inner escaped.length ∙ escaped.word.whole)

pub name_word : (text : List ℕ) → HasForm Ident text → IsNameWord (unescaped text)
name_word text form = record {
  letter = ∥∥₁_elim form (hlevel props) (identifier_letter text);
  word = ∥∥₁_elim form (hlevel props) (identifier_word text);
}

-- ---- identifiers that stand for entries

abbrev pub IsNamedByWord : Introduction → Type 0
IsNamedByWord (Stands scope l kind) = IsLeafOf Ident l
IsNamedByWord (Has scope l) = IsLeafOf Ident l
IsNamedByWord (Body scope) = Unit {0}

first_leaf : (l : Leaf) (ps : List Piece) → HaveForms (asked (identifier l ++ ps)) → IsLeafOf Ident l
unfolding kept
first_leaf l ps h = h.0

one_leaf : (l : Leaf) → HaveForms (asked (identifier l)) → IsLeafOf Ident l
unfolding kept
one_leaf l h = h.0

step_words : (scope : ℕ) (s : Step) → HaveForms (asked (pieces_of s))
    → AllByRecursion IsNamedByWord (introduced_by scope s)
step_words scope (Declares kind l) h = (one_leaf l h, tt)
step_words scope (DeclaresEnum l) h = (one_leaf l h, tt)
step_words scope (DeclaresEnumerator l) h = (one_leaf l h, tt)
step_words scope (DeclaresTypedef t d) h = (one_leaf d.identifier h, tt)
step_words scope (DeclaresConst c) h = (first_leaf c.identifier (const_expr_yield c.value) h, tt)
step_words scope (DeclaresFeature kind l) h = (one_leaf l h, tt)
step_words scope (HasMember l) h = (one_leaf l h, tt)
step_words scope (Defines l) h = (tt, tt)
step_words scope s h = tt

both_all : {X : Type 0} (P : X → Type 0) (xs ys : List X) → AllByRecursion P xs → AllByRecursion P ys
    → AllByRecursion P (xs ++ ys)
both_all P [] ys h k = k
both_all P (x ∷ xs) ys (h, hs) k = (h, both_all P xs ys hs k)

steps_words : (es : List Entry) (scope : ℕ) (steps : List Step) → HaveForms (asked_by steps)
    → AllByRecursion IsNamedByWord (introduced es scope steps)
steps_words es scope [] h = tt
steps_words es scope (s ∷ steps) h =
    let parts = HaveForms-append (asked (pieces_of s)) (asked_by steps) h in
    both_all IsNamedByWord (introduced_by scope s) (introduced es (scope_behind es scope s) steps)
    (step_words scope s parts.0) (steps_words es (scope_behind es scope s) steps parts.1)

asked_forms : (ps : List Piece) → HaveForms ps → HaveForms (asked ps)
asked_forms [] h = tt
asked_forms (p ∷ ps) h = by (is_asked p.kind) refl (asked_forms ps h.1)
  where
    by : (b : Bool) → is_asked p.kind ≡ b → HaveForms (asked ps) → HaveForms (asked (p ∷ ps))
    by true is rest = rw is (h.0, rest)
    by false is rest = rw is rest

pub spec_words : (spec : Spec) (es : List Entry)
    → AllByRecursion IsNamedByWord (introduced es 0 (steps_of spec.definitions.items))
spec_words spec es =
    steps_words es 0 (steps_of spec.definitions.items)
    (subst HaveForms (all_asked spec.definitions.items)
    (asked_forms (definitions_spelled spec.definitions.items) (Spec-forms spec)))

one_of : {X : Type 0} (P : X → Type 0) (xs : List X) (k : ℕ) (x : X) → AllByRecursion P xs → k < length xs
    → slice_index_or xs k x ≡ x → P x
one_of P [] k x all lt is = absurd (omega arith)
one_of P (y ∷ ys) zero x all lt is = subst P is all.0
one_of P (y ∷ ys) (suc k) x all lt is = one_of P ys k x all.1 (omega arith) is

-- ---- entries

-- each entry is the one that its scope and its name find, its name is a word, and its scope is that of an earlier one
pub record AreProper (es : List Entry) : Type 0 where
  pub nested : AreNested es
  pub words : (n : ℕ) (e : Entry) → slice_get es n ≡ Some e → IsNameWord e.name
  pub own : (n : ℕ) (e : Entry) → slice_get es n ≡ Some e → named es e.scope e.name ≡ Some n

abbrev IsProper : List Entry → ℕ → Entry → Type 0
IsProper es n e = IsNameWord e.name × (named es e.scope e.name ≡ Some n)

-- by the identifier that stands for it
proper_by : (es : List Entry) (n : ℕ) (e : Entry) (x : Introduction) → slice_get es n ≡ Some e → StandsFor es n x
    → IsEntry es x → IsNamedByWord x → IsProper es n e
proper_by es n e (Stands scope l kind) at stands (m, f, is, here, kind_is, name_is) form =
    let number : m ≡ n = cc in
    let same : f ≡ e = let both : Some f ≡ Some e = sym here ∙ ap (slice_get es) number ∙ at in cc in
    let called : e.name ≡ word l = ap (λ x. x.name) (sym same) ∙ name_is in
    let (y, there, in_scope) = named_entry es scope (word l) n stands in
    let again : y ≡ e = let both : Some y ≡ Some e = sym there ∙ at in cc in
    let scoped : e.scope ≡ scope = ap (λ x. x.scope) (sym again) ∙ sym in_scope in (
      subst IsNameWord (sym called) (name_word l.token.text.now form),
      ap (λ s. named es s e.name) scoped ∙ ap (named es scope) called ∙ stands,
    )
proper_by es n e (Has scope l) at stands is form = absurd stands
proper_by es n e (Body scope) at stands is form = absurd stands

entry_proper : (spec : Spec) (names : FileNames) → AreNames spec.definitions.items names → (n : ℕ) (e : Entry)
    → slice_get names.entries n ≡ Some e → IsProper names.entries n e
entry_proper spec names h n e at =
    let all = introduced names.entries 0 (steps_of spec.definitions.items) in
    let (k, x, lt, is, stands) =
    nothing_else spec.definitions.items names h n (slice_get_within names.entries n e at) in
    proper_by names.entries n e x at stands
    (one_of (IsEntry names.entries) all k x (declared_once spec.definitions.items names h) lt is)
    (one_of IsNamedByWord all k x (spec_words spec names.entries) lt is)

pub entries_proper : (spec : Spec) (names : FileNames) → AreNames spec.definitions.items names → AreProper names.entries
entries_proper spec names h = record {
  nested = entries_nested spec.definitions.items names h;
  words = λ n e at. (entry_proper spec names h n e at).0;
  own = λ n e at. (entry_proper spec names h n e at).1;
}
