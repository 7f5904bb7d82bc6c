-- Names worked out by hand: what each finds. The tokens of a source count from 0.
use Rattle.std.proofs.Common.{◌≡◌, ℕ, true, false, List, [], ◌∷◌, codes, None, refl}
use Rattle.idl_tree.specs.declared.kinds.EntryKind.{EntryKind}
use Rattle.idl_tree.specs.declared.kinds.EntryKind.TheVariants.{Module, Interface, Struct, Enum, Enumerator, Typedef, Const}
use Rattle.name_table.specs.declared.entry.Base.{Base}
use Rattle.name_table.specs.Entry.{Entry}
use Rattle.name_table.specs.declared.search.Found.TheVariants.{Nothing, One, Several}
use Rattle.name_table.specs.Search.{finds_words}

abbrev entry : ℕ → List ℕ → ℕ → EntryKind → Entry
entry scope name token kind =
    record {
      scope = scope;
      name = name;
      token = token;
      kind = kind;
      bases = [];
      worth = None;
      stands_for = None;
      line =
          1;
      identifier = token;
      prefix = [];
    }

abbrev interface : ℕ → List ℕ → ℕ → List Base → Entry
interface scope name token bases =
    record {
      scope = scope;
      name = name;
      token = token;
      kind = Interface;
      bases = bases;
      worth = None;
      stands_for =
          None;
      line = 1;
      identifier = token;
      prefix = [];
    }

abbrev base : ℕ → ℕ → Base
base token entry = record { token = token; entry = entry }

-- interface A {typedef long T;}; interface B {typedef short T;}; interface C : A, B {attribute T x;};
unfoldable two_that_differ : List Entry
two_that_differ =
    interface 0 (codes "A") 1 [] ∷ entry 1 (codes "T") 5 Typedef ∷ interface 0 (codes "B") 10 []
    ∷ entry 3 (codes "T") 14 Typedef ∷ interface 0 (codes "C") 19 (base 21 0 ∷ base 23 2 ∷ []) ∷ []

two_bases_that_differ : finds_words two_that_differ 26 5 false (codes "T") [] ≡ Several 1 3
unfolding two_that_differ
two_bases_that_differ = refl

-- a name before the second base follows the first alone
before_the_second_base : finds_words two_that_differ 22 5 false (codes "T") [] ≡ One 1
unfolding two_that_differ
before_the_second_base = refl

-- interface A {typedef long T;}; interface B : A {}; interface C : A {}; interface D : B, C {attribute T x;};
unfoldable diamond : List Entry
diamond =
    interface 0 (codes "A") 1 [] ∷ entry 1 (codes "T") 5 Typedef ∷ interface 0 (codes "B") 10 (base 12 0 ∷ [])
    ∷ interface 0 (codes "C") 17 (base 19 0 ∷ []) ∷ interface 0 (codes "D") 24 (base 26 2 ∷ base 28 3 ∷ []) ∷ []

one_entry_by_two_ways : finds_words diamond 31 5 false (codes "T") [] ≡ One 1
unfolding diamond
one_entry_by_two_ways = refl

-- struct A {B x;}; struct B {long y;};
unfoldable declared_behind : List Entry
declared_behind = entry 0 (codes "A") 1 Struct ∷ entry 0 (codes "B") 9 Struct ∷ []

not_yet_declared : finds_words declared_behind 3 1 false (codes "B") [] ≡ Nothing
unfolding declared_behind
not_yet_declared = refl

-- typedef long T; module M { struct S {T x;}; typedef short T; };
unfoldable nearer_but_behind : List Entry
nearer_but_behind =
    entry 0 (codes "T") 2 Typedef ∷ entry 0 (codes "M") 5 Module ∷ entry 2 (codes "S") 8 Struct
    ∷ entry 2 (codes "T") 17 Typedef ∷ []

the_one_that_stands_before : finds_words nearer_but_behind 10 3 false (codes "T") [] ≡ One 0
unfolding nearer_but_behind
the_one_that_stands_before = refl

the_nearer_where_it_stands_before : finds_words nearer_but_behind 20 3 false (codes "T") [] ≡ One 3
unfolding nearer_but_behind
the_nearer_where_it_stands_before = refl

from_the_file : finds_words nearer_but_behind 20 3 true (codes "T") [] ≡ One 0
unfolding nearer_but_behind
from_the_file = refl

inside_a_module : finds_words nearer_but_behind 20 0 false (codes "M") (codes "T" ∷ []) ≡ One 3
unfolding nearer_but_behind
inside_a_module = refl

-- the rest isn't sought in the scopes around
no_way_back : finds_words nearer_but_behind 20 0 false (codes "M") (codes "S" ∷ codes "T" ∷ []) ≡ Nothing
unfolding nearer_but_behind
no_way_back = refl

-- typedef long T; interface A {typedef short T;}; interface B : A {attribute T x;};
unfoldable inherited_and_around : List Entry
inherited_and_around =
    entry 0 (codes "T") 2 Typedef ∷ interface 0 (codes "A") 5 [] ∷ entry 2 (codes "T") 9 Typedef
    ∷ interface 0 (codes "B") 14 (base 16 1 ∷ []) ∷ []

bases_before_the_scope_around : finds_words inherited_and_around 19 4 false (codes "T") [] ≡ One 2
unfolding inherited_and_around
bases_before_the_scope_around = refl

-- enum E {a}; module M {const long A = 1; typedef long L;};  a name in another case finds nothing, and nothing else
unfoldable in_other_cases : List Entry
in_other_cases =
    entry 0 (codes "E") 1 Enum ∷ entry 0 (codes "a") 3 Enumerator ∷ entry 0 (codes "M") 7 Module
    ∷ entry 3 (codes "A") 14 Const ∷ []

in_another_case : finds_words in_other_cases 17 3 false (codes "a") [] ≡ Nothing
unfolding in_other_cases
in_another_case = refl

-- a constant isn't found before its end
constant_before_its_end : finds_words in_other_cases 13 3 false (codes "a") [] ≡ One 1
unfolding in_other_cases
constant_before_its_end = refl
