-- What is read, part by part.
use Rattle.std.proofs.Common.{◌≡◌, ◌≢◌, ◌⊎◌, inl, inr, ◌+◌, ◌<◌, ◌≤◌, ℕ, zero, suc, ℤ, List, [], ◌∷◌, ◌++◌, length, map, true, replicate, take, get_or, Option, Some, None, slice_get, refl, sym, ap, ◌∙◌, subst, add-one, append_assoc, arith}
use Rattle.std.specs.Prelude.{set, IsPermutation, option_to_list}
use Rattle.std.specs.List.{AllByRecursion}
use Rattle.std.proofs.lemmas.List.{append-nil}
use Rattle.std.proofs.lemmas.List.Elements.{recursion_from_All}
use Rattle.std.proofs.lemmas.Option.{same_Some}
use Rattle.std.proofs.lemmas.List.Sorted.{IsPermutation-refl, IsPermutation-trans, IsPermutation-sym, IsPermutation-cons, IsPermutation-to_front}
use Rattle.std.proofs.Math.Seq.{take-suc}
use Rattle.json.specs.Token.{Token, key, string, begin_object, begin_array, end_object, end_array, bad}
use Rattle.type_model.specs.PartNamesNames.{names_at}
use Rattle.type_graph.specs.declared.node.Node.{Node}
use Rattle.type_graph.specs.declared.node.Node.TheVariants.{Octet, Char, Text, Array, Struct, Union}
use Rattle.type_graph.specs.Value.{Tree, Number, Items, Choice, Trees, NoTree, AndTree, count, node_at, arm_of, IsNumber, Fits, FitAll}
use Rattle.type_graph.specs.GraphRules.{held_by}
use Rattle.type_graph.specs.Walks.{above}
use Rattle.type_graph.proofs.HeightLaws.{above_arm}
use Rattle.idl_value.specs.declared.value.Value.{Value}
use Rattle.idl_value.specs.View.{tree_of, trees_of}
use Rattle.value_text.specs.Pieces.{octets_of, joined, paired}
use Rattle.value_text.specs.Says.{SaysNumber, SaysTogether, IsList, Says, SayAll}
use Rattle.value_text.specs.inner.Slots.{AreParts, given}
use Rattle.value_text.specs.inner.Reading.{Next, IsOctet, IsOctets, IsString, Reads, ReadsAs, ReadsItems, ReadsParts, ReadsList, ReadsMembers, ReadsStructure, ReadsSlots, ReadsObject, SaysMember}
use Rattle.value_text.proofs.OctetParts.{octets_of-trees}
use Rattle.value_text.specs.Stringified.{Stringifies, FitsObject}
use Rattle.value_text.specs.Texts.{refers}
use Rattle.value_text.proofs.References.{object_members, object_fits}
use Rattle.value_text.proofs.Firsts.{IsFirst, number_first}
use Rattle.value_text.proofs.Slots.{slots_empty, slot_free, slot_filled, slots_whole, given_none, given_more}

-- a value behind the others
abbrev pub with_last : Trees → Tree → Trees
with_last NoTree last = AndTree last NoTree
with_last (AndTree value values) last = AndTree value (with_last values last)

abbrev Is_none : {X : Type 0} → Option X → Type 0
Is_none None = Unit {0}
Is_none (Some x) = ⊥

pub not_none : {X : Type 0} (o : Option X) (x : X) → o ≡ None → o ≡ Some x → ⊥
not_none o x e f = subst Is_none (sym e ∙ f) tt

-- one copy more
pub one_more : (n number : ℕ) → replicate n number ++ number ∷ [] ≡ replicate (n + 1) number
one_more zero number = refl
one_more (suc n) number = ap (λ l. number ∷ l) (one_more n number)
    ∙ sym (ap (λ k. replicate k number) (add-one (suc n)) ∙ ap (λ k. number ∷ replicate k number) (sym (add-one n)))

-- one number more
pub take_more : (numbers : List ℕ) (i : ℕ) → i < length numbers
    → take i numbers ++ get_or numbers i 0 ∷ [] ≡ take (i + 1) numbers
take_more numbers i lt = sym (ap (λ k. take k numbers) (add-one i) ∙ take-suc numbers i 0 lt)

-- a value more
trees_of-last : (values : List Value) (value : Value)
    → trees_of (values ++ value ∷ []) ≡ with_last (trees_of values) (tree_of value)
trees_of-last [] value = refl
trees_of-last (other ∷ values) value = ap (AndTree (tree_of other)) (trees_of-last values value)

joined-last : (texts : List (List Token)) (text : List Token) → joined (texts ++ text ∷ []) ≡ joined texts ++ text
joined-last [] text = append-nil text
joined-last (other ∷ texts) text = ap (λ l. other ++ l) (joined-last texts text)
    ∙ sym (append_assoc other (joined texts) text)

paired-last : (pairs : List (List ℕ × List Token)) (label : List ℕ) (text : List Token)
    → paired (pairs ++ (label, text) ∷ []) ≡ paired pairs ++ key label ∷ text
paired-last [] label text = ap (λ l. key label ∷ l) (append-nil text)
paired-last (pair ∷ pairs) label text =
    ap (λ l. key pair.0 ∷ (pair.1 ++ l)) (paired-last pairs label text)
    ∙ ap (λ l. key pair.0 ∷ l) (sym (append_assoc pair.1 (paired pairs) (key label ∷ text)))

-- a pair more, behind the others
behind_others : {P : Type 0} (all these more : List P) (pair : P) → IsPermutation all these
    → IsPermutation (pair ∷ all) more → IsPermutation more (these ++ pair ∷ [])
behind_others all these more pair order grown =
    IsPermutation-trans more (pair ∷ all) (these ++ pair ∷ []) (IsPermutation-sym (pair ∷ all) more grown)
    (IsPermutation-trans (pair ∷ all) (pair ∷ these) (these ++ pair ∷ []) (IsPermutation-cons pair all these order)
    (IsPermutation-sym (these ++ pair ∷ []) (pair ∷ these) (IsPermutation-to_front these pair)))

-- a part is lower
pub above_at : (h : ℕ → ℕ) (numbers : List ℕ) (i number : ℕ) → slice_get numbers i ≡ Some number
    → h number < above h numbers
above_at h [] i number e = absurd (subst Is_none e tt)
above_at h (first ∷ numbers) zero number e = let same = ap h (same_Some first number e) in omega (arith, same)
above_at h (first ∷ numbers) (suc i) number e = let more = above_at h numbers i number e in omega (arith, more)

-- what a label chooses is lower than the union
pub above_chosen : (h : ℕ → ℕ) (switch : ℕ) (arms : List (ℤ × ℕ)) (default : Option ℕ) (n : ℤ) (chosen : Option ℕ)
    → option_to_list chosen ≡ arm_of arms default n
    → above h (option_to_list chosen) ≤ above h (held_by (Union switch arms default))
above_chosen h switch arms default n None e = omega arith
above_chosen h switch arms default n (Some number) e = let lower = above_arm h switch arms default n number e in
    omega (arith, lower)

-- octets and characters may stand together
abbrev pub IsByte : Node → Type 0
IsByte Octet = Unit {0}
IsByte Char = Unit {0}
IsByte node = ⊥

pub together_byte : (node : Node) (octets : List ℕ) (tokens : List Token) → SaysTogether node octets tokens
    → IsByte node
together_byte Octet octets tokens h = tt
together_byte Char octets tokens h = tt
together_byte node octets tokens h = absurd h

-- the next token, where it is good
pub next_good : (old : List Token) (token : Token) (new : List Token) → Next old token new → token ≢ bad
    → old ≡ token ∷ new
next_good old token new (inl e) good = e
next_good old token new (inr e) good = absurd (good e.1)

module _ (names : List (List (List ℕ))) (graph : List Node) where
  pub fit_more : (numbers : List ℕ) (number depth : ℕ) (values : Trees) (value : Tree)
      → FitAll graph numbers values depth
      → Fits graph (node_at graph number) value depth
      → FitAll graph (numbers ++ number ∷ []) (with_last values value) depth
  fit_more [] number depth NoTree value h fits = (fits, tt)
  fit_more [] number depth (AndTree other values) value h fits = absurd h
  fit_more (first ∷ numbers) number depth NoTree value h fits = absurd h
  fit_more (first ∷ numbers) number depth (AndTree other values) value h fits =
      (h.0, fit_more numbers number depth values value h.1 fits)

  pub say_more : (numbers : List ℕ) (number : ℕ) (values : Trees) (value : Tree) (texts : List (List Token))
      (text : List Token)
      → SayAll names graph numbers values texts
      → Says names graph (names_at names number) (node_at graph number) value text
      → SayAll names graph (numbers ++ number ∷ []) (with_last values value) (texts ++ text ∷ [])
  say_more [] number NoTree value [] text h says = (says, tt)
  say_more [] number NoTree value (other ∷ texts) text h says = absurd h
  say_more [] number (AndTree other values) value texts text h says = absurd h
  say_more (first ∷ numbers) number NoTree value texts text h says = absurd h
  say_more (first ∷ numbers) number (AndTree other values) value [] text h says = absurd h
  say_more (first ∷ numbers) number (AndTree other values) value (one ∷ texts) text h says =
      (h.0, say_more numbers number values value texts text h.1 says)

  pub parts_none : (depth : ℕ) (old : List Token) → ReadsParts names graph [] depth old NoTree old
  parts_none depth old = record { texts = []; cut = refl; fit = tt; say = tt }

  pub parts_more : (numbers : List ℕ) (number depth : ℕ) (old : List Token) (values : List Value) (mid : List Token)
      (token : Token) (behind : List Token) (value : Value) (new : List Token)
      → ReadsParts names graph numbers depth old (trees_of values) mid → (token ≢ bad → mid ≡ token ∷ behind)
      → Reads names graph number depth token behind (tree_of value) new
      → ReadsParts names graph (numbers ++ number ∷ []) depth old (trees_of (values ++ value ∷ [])) new
  parts_more numbers number depth old values mid token behind value new before next read =
      let text = token ∷ read.more in
      subst (λ trees. ReadsParts names graph (numbers ++ number ∷ []) depth old trees new)
      (sym (trees_of-last values value)) (record {
        texts = before.texts ++ text ∷ [];
        cut = before.cut ∙ ap (λ l. joined before.texts ++ l) (next read.good ∙ ap (λ l. token ∷ l) read.cut)
            ∙ sym (append_assoc (joined before.texts) text new)
            ∙ ap (λ l. l ++ new) (sym (joined-last before.texts text));
        fit = fit_more numbers number depth (trees_of values) (tree_of value) before.fit read.fits;
        say = say_more numbers number (trees_of values) (tree_of value) before.texts text before.say read.says;
      })

  -- the members of an object
  pub slots_none : (labels : List (List ℕ)) (numbers : List ℕ) (depth : ℕ) (old : List Token)
      → ReadsSlots names graph labels numbers depth old (replicate (length numbers) None) old
  slots_none labels numbers depth old = record {
    texts = replicate (length numbers) None;
    are_slots = slots_empty (SaysMember names graph depth) numbers;
    pairs = [];
    in_some_order = subst (λ l. IsPermutation l []) (sym (given_none labels (length numbers))) (IsPermutation-refl []);
    cut = refl;
  }

  pub slots_more : (labels : List (List ℕ)) (numbers : List ℕ) (depth : ℕ) (old : List Token)
      (slots : List (Option Value)) (mid : List Token)
      (label : List ℕ) (place number : ℕ) (first : List Token) (token : Token) (behind : List Token) (value : Value)
      (new : List Token)
      → ReadsSlots names graph labels numbers depth old slots mid → mid ≡ key label ∷ first
      → (token ≢ bad → first ≡ token ∷ behind)
      → slice_get labels place ≡ Some label → slice_get slots place ≡ Some None → slice_get numbers place ≡ Some number
      → Reads names graph number depth token behind (tree_of value) new
      → ReadsSlots names graph labels numbers depth old (set slots place (Some value)) new
  slots_more labels numbers depth old slots mid label place number first token behind value new before named next at
      free member read =
      let text = token ∷ read.more in
      let pair : List ℕ × List Token = (label, text) in
      let Member = SaysMember names graph depth in
      let no_text = slot_free Member numbers slots before.texts place before.are_slots free in
      let these = before.pairs in record {
        texts = set before.texts place (Some text);
        are_slots = slot_filled Member numbers slots before.texts place number value text before.are_slots member
            (read.fits, read.says);
        pairs = these ++ pair ∷ [];
        in_some_order = behind_others (given labels before.texts) these
            (given labels (set before.texts place (Some text))) pair before.in_some_order
            (given_more labels before.texts place label text at no_text);
        cut = before.cut ∙ ap (λ l. paired these ++ l)
            (named ∙ ap (λ l. key label ∷ l) (next read.good ∙ ap (λ l. token ∷ l) read.cut))
            ∙ sym (append_assoc (paired these) (key label ∷ text) new)
            ∙ ap (λ l. l ++ new) (sym (paired-last these label text));
      }

  -- each part has its value and its text
  all_fit : (numbers : List ℕ) (depth : ℕ) (values : List Value) (texts : List (List Token))
      → AreParts (SaysMember names graph depth) numbers values texts
      → FitAll graph numbers (trees_of values) depth × SayAll names graph numbers (trees_of values) texts
  all_fit [] depth [] [] h = (tt, tt)
  all_fit (number ∷ numbers) depth (value ∷ values) (text ∷ texts) h =
      let rest = all_fit numbers depth values texts h.1 in
      ((h.0.0, rest.0), (h.0.1, rest.1))
  all_fit numbers depth values texts h = absurd h

  pub slots_all : (labels : List (List ℕ)) (numbers : List ℕ) (depth : ℕ) (old : List Token) (values : List Value)
      (new : List Token)
      → ReadsSlots names graph labels numbers depth old (map Some values) (end_object ∷ new)
      → ReadsObject names graph labels numbers depth old (trees_of values) new
  slots_all labels numbers depth old values new before =
      let whole = slots_whole (SaysMember names graph depth) labels numbers values before.texts before.are_slots in
      let all = all_fit numbers depth values whole.own whole.are_parts in record {
        texts = whole.own;
        pairs = before.pairs;
        in_some_order = subst (λ l. IsPermutation l before.pairs) whole.are_all before.in_some_order;
        cut = before.cut;
        fit = all.0;
        say = all.1;
      }

  -- what begins with a token
  pub text_read : (labels : List (List ℕ)) (bound depth : ℕ) (token : Token) (old : List Token) (value : Tree)
      → IsString bound value token
      → ReadsAs names graph labels (Text bound) depth token old value old
  text_read labels bound depth token old value h = record {
    good = λ e. subst IsFirst (sym h.says ∙ e) tt;
    more = [];
    cut = refl;
    fits = subst (λ v. Fits graph (Text bound) v depth) (sym h.value_is) h.is_text;
    says = subst (λ v. Says names graph labels (Text bound) v (token ∷ [])) (sym h.value_is) (ap (λ t. t ∷ []) h.says);
  }

  pub number_read : (labels : List (List ℕ)) (node : Node) (depth : ℕ) (token : Token) (old : List Token) (value : Tree)
      (n : ℤ) → value ≡ Number n
      → IsNumber node n → SaysNumber labels node n token → ReadsAs names graph labels node depth token old value old
  number_read labels node depth token old value n e is_number says = record {
    good = λ e. subst IsFirst e (number_first labels node n token says);
    more = [];
    cut = refl;
    fits = subst (λ v. Fits graph node v depth) (sym e) is_number;
    says = subst (λ v. Says names graph labels node v (token ∷ [])) (sym e) (token, says, refl);
  }

  pub choice_read : (labels : List (List ℕ)) (switch : ℕ) (arms : List (ℤ × ℕ)) (default : Option ℕ) (depth : ℕ) (n : ℤ)
      (label : Token) (token : Token) (old first mid new : List Token) (values : Trees)
      → token ≡ begin_array → IsNumber (node_at graph switch) n
      → SaysNumber (names_at names switch) (node_at graph switch) n label → old ≡ label ∷ first
      → ReadsParts names graph (arm_of arms default n) depth first values mid → mid ≡ end_array ∷ new
      → ReadsAs names graph labels (Union switch arms default) depth token old (Choice n values) new
  choice_read labels switch arms default depth n label token old first mid new values opens is_number says labelled
      parts ends = record {
        good = λ e. subst IsFirst (sym opens ∙ e) tt;
        more = label ∷ (joined parts.texts ++ end_array ∷ []);
        cut = labelled ∙ ap (λ l. label ∷ l) (parts.cut ∙ ap (λ l. joined parts.texts ++ l) ends
            ∙ sym (append_assoc (joined parts.texts) (end_array ∷ []) new));
        fits = (is_number, parts.fit);
        says = (
          label,
          says,
          parts.texts,
          parts.say,
          ap (λ t. t ∷ (label ∷ (joined parts.texts ++ end_array ∷ [])))
              opens,
        );
      }

  -- elements
  pub count_trees : (values : List Value) → count (trees_of values) ≡ length values
  count_trees [] = refl
  count_trees (value ∷ values) = ap suc (count_trees values)

  pub list_read : (elem depth : ℕ) (token : Token) (old : List Token) (values : List Value) (new : List Token)
      → token ≡ begin_array
      → ReadsList names graph (replicate (length values) elem) depth old (trees_of values) new
      → ReadsItems names graph elem depth token old (trees_of values) new
  list_read elem depth token old values new opens parts =
      let counted = sym (count_trees values) in record {
        good = λ e. subst IsFirst (sym opens ∙ e) tt;
        more = joined parts.texts ++ end_array ∷ [];
        cut = parts.cut ∙ sym (append_assoc (joined parts.texts) (end_array ∷ []) new);
        fit = subst (λ n. FitAll graph (replicate n elem) (trees_of values) depth) counted parts.fit;
        whole = inr (
          parts.texts,
          subst (λ n. SayAll names graph (replicate n elem) (trees_of values) parts.texts) counted parts.say,
          ap (λ t. t ∷ (joined parts.texts ++ end_array ∷ [])) opens,
        );
      }

  -- a value that is an octet is one of an octet's node, and of a character's
  octet_fits : (node : Node) (value : Tree) (depth : ℕ) → IsByte node → IsOctet value → Fits graph node value depth
  octet_fits Octet (Number n) depth is_byte h = h
  octet_fits Char (Number n) depth is_byte h = h
  octet_fits node (Number n) depth is_byte h = absurd is_byte
  octet_fits node value depth is_byte h = absurd h

  octets_fit : (elem depth : ℕ) (values : List Value) → IsByte (node_at graph elem)
      → AllByRecursion (λ value. IsOctet (tree_of value)) values
      → FitAll graph (replicate (count (trees_of values)) elem) (trees_of values) depth
  octets_fit elem depth [] is_byte h = tt
  octets_fit elem depth (value ∷ values) is_byte h =
      (octet_fits (node_at graph elem) (tree_of value) depth is_byte h.0, octets_fit elem depth values is_byte h.1)

  pub together_read : (elem depth : ℕ) (text : List ℕ) (token : Token) (old : List Token) (octets : List ℕ)
      (values : List Value) → token ≡ string text
      → SaysTogether (node_at graph elem) octets (string text ∷ []) → IsOctets octets values
      → ReadsItems names graph elem depth token old (trees_of values) old
  together_read elem depth text token old octets values is says h = record {
    good = λ e. subst IsFirst (sym is ∙ e) tt;
    more = [];
    cut = refl;
    fit = octets_fit elem depth values (together_byte (node_at graph elem) octets (string text ∷ []) says)
        (recursion_from_All (λ value. IsOctet (tree_of value)) values h.each);
    whole = inl (subst (λ t. SaysTogether (node_at graph elem) (octets_of (trees_of values)) (t ∷ [])) (sym is)
        (subst (λ l. SaysTogether (node_at graph elem) l (string text ∷ [])) (sym (octets_of-trees values ∙ h.same))
        says));
  }

  pub array_read : (labels : List (List ℕ)) (elem n depth : ℕ) (token : Token) (old : List Token) (value : Tree)
      (values : Trees) (new : List Token)
      → count values ≡ n → value ≡ Items values → ReadsItems names graph elem depth token old values new
      → ReadsAs names graph labels (Array elem n) depth token old value new
  array_read labels elem n depth token old value values new counted e h = record {
    good = h.good;
    more = h.more;
    cut = h.cut;
    fits = subst (λ v. Fits graph (Array elem n) v depth) (sym e)
        (subst (λ k. FitAll graph (replicate k elem) values depth) counted h.fit);
    says = subst (λ v. Says names graph labels (Array elem n) v (token ∷ h.more)) (sym e)
        (subst (λ k. SaysTogether (node_at graph elem) (octets_of values) (token ∷ h.more)
        ⊎ ((texts : List (List Token)) × SayAll names graph (replicate k elem) values texts
        × IsList texts (token ∷ h.more))) counted h.whole);
  }

  -- members
  pub as_many : (numbers : List ℕ) (values : Trees) (texts : List (List Token))
      → SayAll names graph numbers values texts → length texts ≡ length numbers
  as_many [] NoTree [] h = refl
  as_many (number ∷ numbers) (AndTree value values) (text ∷ texts) h = ap suc (as_many numbers values texts h.1)
  as_many numbers values texts h = absurd h

  pub object_read : (labels : List (List ℕ)) (numbers : List ℕ) (depth : ℕ) (token : Token) (old : List Token)
      (values : Trees) (new : List Token)
      → token ≡ begin_object → length labels ≡ length numbers
      → ReadsObject names graph labels numbers depth old values new
      → ReadsMembers names graph labels numbers depth token old values new
  object_read labels numbers depth token old values new opens named h =
      let more = paired h.pairs ++ end_object ∷ [] in record {
        good = λ e. subst IsFirst (sym opens ∙ e) tt;
        more = more;
        cut = h.cut ∙ sym (append_assoc (paired h.pairs) (end_object ∷ []) new);
        fit = h.fit;
        texts = h.texts;
        say = h.say;
        whole = inl (record {
          named = named ∙ sym (as_many numbers values h.texts h.say);
          pairs = h.pairs;
          in_some_order = h.in_some_order;
          is_object = ap (λ t. t ∷ more) opens;
        });
      }

  -- a structure is its members, or the string of an object reference
  pub structure_read : (labels : List (List ℕ)) (numbers : List ℕ) (depth : ℕ) (token : Token) (old : List Token)
      (value : Tree) (values : Trees) (new : List Token)
      → value ≡ Items values → ReadsStructure names graph labels numbers depth token old values new
      → ReadsAs names graph labels (Struct numbers) depth token old value new
  structure_read labels numbers depth token old value values new e (inl h) = record {
    good = λ is. subst IsFirst (sym h.token_is ∙ is) tt;
    more = [];
    cut = h.same;
    fits = subst (λ v. Fits graph (Struct numbers) v depth) (sym e) h.fit;
    says = subst (λ v. Says names graph labels (Struct numbers) v (token ∷ [])) (sym e)
        (inl (h.is_one, h.text, h.spelled, ap (λ t. t ∷ []) h.token_is));
  }
  structure_read labels numbers depth token old value values new e (inr h) = record {
    good = h.good;
    more = h.more;
    cut = h.cut;
    fits = subst (λ v. Fits graph (Struct numbers) v depth) (sym e) h.fit;
    says = subst (λ v. Says names graph labels (Struct numbers) v (token ∷ h.more)) (sym e)
        (inr (h.texts, h.say, h.whole));
  }

  pub reference_read : (labels : List (List ℕ)) (numbers : List ℕ) (depth : ℕ) (token : Token) (text : List ℕ)
      (old : List Token) (value : Tree) (new : List Token)
      → token ≡ string text → new ≡ old → refers graph labels numbers ≡ true → Stringifies text value
      → FitsObject value depth
      → (values : Trees) × (value ≡ Items values) × ReadsStructure names graph labels numbers depth token old values new
  reference_read labels numbers depth token text old value new is same one spelled fits =
      let found = object_members value depth fits in
      let values = found.0 in (
        values,
        found.1,
        inl (record {
          is_one = one;
          text = text;
          token_is = is;
          spelled = subst (Stringifies text) found.1 spelled;
          fit = object_fits graph labels numbers values depth one (subst (λ v. FitsObject v depth) found.1 fits);
          same = sym same;
        }),
      )

  pub row_read : (labels : List (List ℕ)) (numbers : List ℕ) (depth : ℕ) (token : Token) (old : List Token)
      (values : Trees) (new : List Token)
      → token ≡ begin_array → ReadsList names graph numbers depth old values new
      → ReadsMembers names graph labels numbers depth token old values new
  row_read labels numbers depth token old values new opens h =
      let more = joined h.texts ++ end_array ∷ [] in record {
        good = λ e. subst IsFirst (sym opens ∙ e) tt;
        more = more;
        cut = h.cut ∙ sym (append_assoc (joined h.texts) (end_array ∷ []) new);
        fit = h.fit;
        texts = h.texts;
        say = h.say;
        whole = inr (ap (λ t. t ∷ more) opens);
      }
