-- The text that is printed of a value says it.
use Rattle.std.proofs.Common.{◌≡◌, ◌⊎◌, inl, inr, ℕ, zero, suc, ℤ, pos, negsuc, List, [], ◌∷◌, length, replicate, zip, Option, Some, None, true, false, Bool, ◌-◌, ◌<◌, refl, sym, ap, ◌∙◌, subst, arith}
use Rattle.std.proofs.lemmas.Bool.{false≢true, ltb-true, eqb-true}
use Rattle.std.specs.Prelude.{if◌then◌else◌, nat_lt}
use Rattle.json.specs.Token.{Token}
use Rattle.hex.specs.Hex.{encode_lower, IsBytes}
use Rattle.std.proofs.lemmas.List.Sorted.{IsPermutation-refl}
use Rattle.hex.proofs.HexLemmas.{decode_of-encode_lower}
use Rattle.type_model.specs.PartNamesNames.{names_at}
use Rattle.type_graph.specs.declared.node.Node.{Node}
use Rattle.type_graph.specs.declared.node.Node.TheVariants.{Octet, Char, Boolean, Enum, Text, Seq, Array, Struct, Union, Frame}
use Rattle.type_graph.specs.Value.{Tree, Number, Bytes, Items, Choice, Trees, NoTree, AndTree, count, node_at, arm_of, Fits, FitAll}
use Rattle.value_text.specs.Pieces.{octet_of, octet_of_tree, octets_of, listed, object_of, are_named}
use Rattle.value_text.specs.Printed.{reference_text}
use Rattle.value_text.specs.Texts.{label_of, enumerator_of, number_text, elements_text, members_text, refers, structure_text, text_of, texts_of}
use Rattle.value_text.specs.Says.{SaysNumber, SaysTogether, IsObject, IsList, Says, SayAll}
use Rattle.value_text.proofs.References.{printed_one}

-- a number's text says it
enumerator_says : (labels : List (List ℕ)) (limit : ℕ) (n : ℤ) (label : Option (List ℕ)) → label_of labels n ≡ label
    → SaysNumber labels (Enum limit) n (enumerator_of label n)
enumerator_says labels limit n None e = inl refl
enumerator_says labels limit n (Some label) e = inr (label, e, refl)

number_says : (labels : List (List ℕ)) (node : Node) (n : ℤ) → SaysNumber labels node n (number_text labels node n)
number_says labels Boolean n = refl
number_says labels Char n = refl
number_says labels (Enum limit) n = enumerator_says labels limit n (label_of labels n) refl
number_says labels node n = refl

-- octets are below 256
are_octets : (values : Trees) → IsBytes (octets_of values)
are_octets NoTree i = omega arith
are_octets (AndTree value more) zero = an_octet value
  where
    octet : (n : ℤ) → octet_of n < 256
    octet (pos n) = below n (nat_lt n 256) refl
      where
        below : (n : ℕ) (b : Bool) → nat_lt n 256 ≡ b → (if b then n else 0) < 256
        below n true e = ltb-true n 256 e
        below n false e = omega arith
    octet (negsuc n) = omega arith

    an_octet : (value : Tree) → octet_of_tree value < 256
    an_octet (Number n) = octet n
    an_octet value = omega arith
are_octets (AndTree value more) (suc i) = are_octets more i

-- so many elements are as many
pub fit_count : (graph : List Node) (n elem depth : ℕ) (values : Trees) → FitAll graph (replicate n elem) values depth
    → count values ≡ n
fit_count graph zero elem depth NoTree h = refl
fit_count graph zero elem depth (AndTree value more) h = absurd h
fit_count graph (suc n) elem depth NoTree h = absurd h
fit_count graph (suc n) elem depth (AndTree value more) h = ap suc (fit_count graph n elem depth more h.1)

-- names are as many as the members
as_many : (labels : List (List ℕ)) (n : ℕ) → are_named labels n ≡ true → length labels ≡ n
as_many [] n e = absurd (false≢true e)
as_many (label ∷ labels) n e = eqb-true (suc (length labels)) n e

members_say : (labels : List (List ℕ)) (n : ℕ) (texts : List (List Token)) → length texts ≡ n
    → IsObject labels texts (members_text labels n texts) ⊎ IsList texts (members_text labels n texts)
members_say labels n texts long = by_names (are_named labels n) refl
  where
    by_names : (b : Bool) → are_named labels n ≡ b
        → IsObject labels texts (if b then object_of (zip labels texts) else listed texts)
        ⊎ IsList texts (if b then object_of (zip labels texts) else listed texts)
    by_names true e = inl (record {
      named = as_many labels n e ∙ sym long;
      pairs = zip labels texts;
      in_some_order = IsPermutation-refl (zip labels texts);
      is_object = refl;
    })
    by_names false e = inr refl

module _ (names : List (List (List ℕ))) (graph : List Node) where
  -- a text for each part
  as_many_texts : (numbers : List ℕ) (values : Trees) (depth : ℕ) → FitAll graph numbers values depth
      → length (texts_of names graph numbers values) ≡ length numbers
  as_many_texts [] NoTree depth h = refl
  as_many_texts [] (AndTree value values) depth h = absurd h
  as_many_texts (number ∷ numbers) NoTree depth h = absurd h
  as_many_texts (number ∷ numbers) (AndTree value values) depth h = ap suc (as_many_texts numbers values depth h.1)

  -- elements, which are so many
  abbrev Elements : Node → ℕ → ℕ → Trees → List Token → Type 0
  Elements node n elem values tokens =
      SaysTogether node (octets_of values) tokens
      ⊎ ((texts : List (List Token)) × SayAll names graph (replicate n elem) values texts × IsList texts tokens)

  elements_say : (node : Node) (n elem : ℕ) (values : Trees) (texts : List (List Token))
      → SayAll names graph (replicate n elem) values texts
      → Elements node n elem values (elements_text node (octets_of values) texts)
  elements_say Octet n elem values texts say =
      inl (encode_lower (octets_of values), refl, decode_of-encode_lower (octets_of values) (are_octets values))
  elements_say Char n elem values texts say = inl refl
  elements_say node n elem values texts say = inr (texts, say, refl)

  -- a structure, by its members or as an object reference
  structure_says : (labels : List (List ℕ)) (members : List ℕ) (values : Trees) (depth : ℕ)
      → FitAll graph members values depth
      → SayAll names graph members values (texts_of names graph members values)
      → Says names graph labels (Struct members) (Items values)
      (text_of names graph labels (Struct members) (Items values))
  structure_says labels members values depth h say = by_shape (refers graph labels members) refl
    where
      texts : List (List Token)
      texts = texts_of names graph members values

      by_shape : (b : Bool) → refers graph labels members ≡ b
          → Says names graph labels (Struct members) (Items values)
          (structure_text b values (members_text labels (length members) texts))
      by_shape true e = inl (e, reference_text values, printed_one graph labels members values depth e h, refl)
      by_shape false e = inr (
        texts,
        say,
        members_say labels (length members) texts
            (as_many_texts members values depth h),
      )

  mutual
    pub says : (labels : List (List ℕ)) (node : Node) (value : Tree) (depth : ℕ) → Fits graph node value depth
        → Says names graph labels node value (text_of names graph labels node value)
    says labels node (Number n) depth h = (number_text labels node n, number_says labels node n, refl)
    says labels (Text bound) (Bytes text) depth h = refl
    says labels (Seq elem bound) (Items values) depth h =
        elements_say (node_at graph elem) (count values) elem values
        (texts_of names graph (replicate (count values) elem) values)
        (all_say (replicate (count values) elem) values (depth - 1) h.2)
    says labels (Array elem n) (Items values) depth h =
        subst (λ k. Elements (node_at graph elem) n elem values
        (elements_text (node_at graph elem) (octets_of values) (texts_of names graph (replicate k elem) values)))
        (sym (fit_count graph n elem depth values h))
        (elements_say (node_at graph elem) n elem values (texts_of names graph (replicate n elem) values)
        (all_say (replicate n elem) values depth h))
    says labels (Struct members) (Items values) depth h =
        structure_says labels members values depth h (all_say members values depth h)
    says labels (Frame members) (Items values) depth h =
        let texts = texts_of names graph members values in (
          texts,
          all_say members values depth h,
          members_say labels (length members) texts
              (as_many_texts members values depth h),
        )
    says labels (Union switch arms default) (Choice label values) depth h =
        let node = node_at graph switch in
        let own = names_at names switch in (
          number_text own node label,
          number_says own node label,
          texts_of names graph (arm_of arms default label) values,
          all_say (arm_of arms default label) values depth h.1,
          refl,
        )
    says labels node value depth h = absurd h

    all_say : (numbers : List ℕ) (values : Trees) (depth : ℕ) → FitAll graph numbers values depth
        → SayAll names graph numbers values (texts_of names graph numbers values)
    all_say [] NoTree depth h = tt
    all_say [] (AndTree value values) depth h = absurd h
    all_say (number ∷ numbers) NoTree depth h = absurd h
    all_say (number ∷ numbers) (AndTree value values) depth h =
        (says (names_at names number) (node_at graph number) value depth h.0, all_say numbers values depth h.1)
