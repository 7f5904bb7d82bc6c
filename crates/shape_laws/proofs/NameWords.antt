-- What leaves, names and operators of one shape say, and lists of such parts.
use Rattle.std.proofs.Common.{◌≡◌, ℕ, Bool, true, false, List, [], ◌∷◌, ◌++◌, map, length, suc, Option, Some, None, is_some, refl, ap, ap₂}
use Rattle.std.specs.List.{flat_map}
use Rattle.idl_lexer.specs.declared.token.Kind.{Kind as TokenKind}
use Rattle.idl_lexer.specs.Tokens.{parts_of}
use Rattle.idl_lexer.specs.Words.{unescaped}
use Rattle.idl_tree.specs.declared.names.Leaf.{Leaf}
use Rattle.idl_tree.specs.declared.names.ScopedName.{ScopedName}
use Rattle.idl_tree.specs.declared.names.ScopedName.TheVariants.{Plain, Scoped}
use Rattle.idl_tree.specs.declared.expression.Operator.{Operator}
use Rattle.idl_tree.specs.declared.expression.Operator.TheVariants.{Or, Xor, And, ShiftLeft, ShiftRight, Add, Subtract, Multiply, Divide, Remainder}
use Rattle.idl_tree.specs.declared.expression.Sign.{Sign}
use Rattle.idl_tree.specs.declared.expression.Sign.TheVariants.{Plus, Minus}
use Rattle.idl_tree.specs.Starts.{is_rooted, name_first, name_rest, name_start}
use Rattle.idl_tree.specs.Yields.{boolean_text, sign_text}
use Rattle.name_table.specs.Entry.{Entry}
use Rattle.name_table.specs.Search.{finds, found_by, sees, sees_words, word}
use Rattle.idl_tree.specs.Shapes.{Shape, Nothing, Kind, leaf_shape, root_shape, optional_shape, list_shape, name_shape, operator_shape}
use Rattle.shape_laws.proofs.Apart.{apart}
use Rattle.shape_laws.proofs.Starts.{leaf_text, name_at}

-- ---- what a definition says of equal values

pub ap₃ : {A B C D : Type 0} (f : A → B → C → D) {a a' : A} {b b' : B} {c c' : C} → a ≡ a' → b ≡ b' → c ≡ c'
    → f a b c ≡ f a' b' c'
ap₃ f h k l = cc

pub ap₄ : {A B C D E : Type 0} (f : A → B → C → D → E) {a a' : A} {b b' : B} {c c' : C} {d d' : D}
    → a ≡ a' → b ≡ b' → c ≡ c' → d ≡ d' → f a b c d ≡ f a' b' c' d'
ap₄ f h k l m = cc

-- ---- lists of parts of one shape

pub map_same : {A B : Type 0} (part : A → Shape) (f : A → B) → ((x y : A) → part x ≡ part y → f x ≡ f y)
    → (xs ys : List A) → list_shape part xs ≡ list_shape part ys → map f xs ≡ map f ys
map_same part f same [] [] h = refl
map_same part f same (x ∷ xs) (y ∷ ys) h = ap₂ (λ u us. u ∷ us) (same x y cc) (map_same part f same xs ys cc)
map_same part f same xs ys h = absurd cc

pub flat_same : {A B : Type 0} (part : A → Shape) (f : A → List B) → ((x y : A) → part x ≡ part y → f x ≡ f y)
    → (xs ys : List A) → list_shape part xs ≡ list_shape part ys → flat_map f xs ≡ flat_map f ys
flat_same part f same [] [] h = refl
flat_same part f same (x ∷ xs) (y ∷ ys) h = ap₂ (λ us vs. us ++ vs) (same x y cc) (flat_same part f same xs ys cc)
flat_same part f same xs ys h = absurd cc

pub length_same : {A : Type 0} (part : A → Shape) (xs ys : List A) → list_shape part xs ≡ list_shape part ys
    → length xs ≡ length ys
length_same part [] [] h = refl
length_same part (x ∷ xs) (y ∷ ys) h = ap suc (length_same part xs ys cc)
length_same part xs ys h = absurd cc

-- ---- leaves

pub leaf_number : (a b : Leaf) → leaf_shape a ≡ leaf_shape b → a.number ≡ b.number
leaf_number a b h = cc

pub leaf_parts : (a b : Leaf) → leaf_shape a ≡ leaf_shape b → parts_of a.token ≡ parts_of b.token
leaf_parts a b h = cc

pub leaf_kind : (a b : Leaf) → leaf_shape a ≡ leaf_shape b → a.token.kind ≡ b.token.kind
leaf_kind a b h = ap (λ t. t.kind) (leaf_parts a b h)

pub leaf_line : (a b : Leaf) → leaf_shape a ≡ leaf_shape b → a.token.line ≡ b.token.line
leaf_line a b h = ap (λ t. t.line) (leaf_parts a b h)

-- what says something of a token's kind and text alone
pub kind_text : {T : Type 0} (f : TokenKind → List ℕ → T) (a b : Leaf) → leaf_shape a ≡ leaf_shape b
    → f a.token.kind a.token.text.now ≡ f b.token.kind b.token.text.now
kind_text f a b h = ap₂ f (leaf_kind a b h) (leaf_text a b h)

pub word_same : (a b : Leaf) → leaf_shape a ≡ leaf_shape b → word a ≡ word b
word_same a b h = ap unescaped (leaf_text a b h)

-- ---- operators, signs, truth values

pub operator_same : (o p : Operator) → operator_shape o ≡ operator_shape p → o ≡ p
operator_same Or Or h = refl
operator_same Xor Xor h = refl
operator_same And And h = refl
operator_same ShiftLeft ShiftLeft h = refl
operator_same ShiftRight ShiftRight h = refl
operator_same Add Add h = refl
operator_same Subtract Subtract h = refl
operator_same Multiply Multiply h = refl
operator_same Divide Divide h = refl
operator_same Remainder Remainder h = refl
operator_same o p h = apart h refl

abbrev as_word : List ℕ → Shape
as_word text = Kind text Nothing

sign_by : (s t : Sign) → as_word (sign_text s) ≡ as_word (sign_text t) → s ≡ t
sign_by Plus Plus h = refl
sign_by Minus Minus h = refl
sign_by s t h = apart h refl

pub sign_same : (s t : Sign) → sign_text s ≡ sign_text t → s ≡ t
sign_same s t h = sign_by s t (ap as_word h)

boolean_by : (b c : Bool) → as_word (boolean_text b) ≡ as_word (boolean_text c) → b ≡ c
boolean_by true true h = refl
boolean_by false false h = refl
boolean_by b c h = apart h refl

pub boolean_same : (b c : Bool) → boolean_text b ≡ boolean_text c → b ≡ c
boolean_same b c h = boolean_by b c (ap as_word h)

-- ---- names

pub name_number : (a b : ScopedName) → name_shape a ≡ name_shape b → (name_start a).number ≡ (name_start b).number
name_number a b h = ap (λ p. p.token) (name_at a b h)

is_there : (a b : Option Leaf) → optional_shape root_shape a ≡ optional_shape root_shape b → is_some a ≡ is_some b
is_there None None h = refl
is_there (Some a) (Some b) h = refl
is_there a b h = absurd cc

rooted_same : (a b : ScopedName) → name_shape a ≡ name_shape b → is_rooted a ≡ is_rooted b
rooted_same (Plain l) (Plain m) h = refl
rooted_same (Scoped p) (Scoped q) h = is_there p.value.root q.value.root cc
rooted_same a b h = apart h refl

first_same : (a b : ScopedName) → name_shape a ≡ name_shape b → word (name_first a) ≡ word (name_first b)
first_same (Plain l) (Plain m) h = word_same l m cc
first_same (Scoped p) (Scoped q) h = word_same p.value.first q.value.first cc
first_same a b h = apart h refl

rest_same : (a b : ScopedName) → name_shape a ≡ name_shape b → map word (name_rest a) ≡ map word (name_rest b)
rest_same (Plain l) (Plain m) h = refl
rest_same (Scoped p) (Scoped q) h = map_same leaf_shape word word_same p.value.rest.items q.value.rest.items cc
rest_same a b h = apart h refl

-- names of one shape see the same
pub sees_same : (es : List Entry) (scope : ℕ) (a b : ScopedName) → name_shape a ≡ name_shape b
    → sees es scope a ≡ sees es scope b
sees_same es scope a b h =
    ap₄ (λ n. sees_words es n scope) (name_number a b h) (rooted_same a b h) (first_same a b h) (rest_same a b h)

pub finds_same : (es : List Entry) (scope : ℕ) (a b : ScopedName) → name_shape a ≡ name_shape b
    → finds es scope a ≡ finds es scope b
finds_same es scope a b h = ap found_by (sees_same es scope a b h)
