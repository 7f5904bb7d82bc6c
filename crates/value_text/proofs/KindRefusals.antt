-- What a value of each kind is read as, and so what is refused with it.
use Rattle.std.proofs.Common.{◌≡◌, ◌≢◌, ◌⊎◌, inl, inr, ℕ, ◌-◌, ◌<◌, ◌≤◌, ℤ, pos, negsuc, Bool, true, false, List, [], ◌∷◌, ◌++◌, length, drop, replicate, Option, refl, sym, ap, ◌∙◌, subst, append_assoc, arith}
use Rattle.std.specs.Prelude.{◌↔◌, Ok, nat_lt, if◌then◌else◌}
use Rattle.std.proofs.lemmas.Bool.{ltb-true}
use Rattle.hex.specs.Hex.{decode_of}
use Rattle.json.specs.Token.{Token, string, begin_object, end_object, begin_array, end_array}
use Rattle.type_model.specs.PartNamesNames.{names_at, AreApart}
use Rattle.type_graph.specs.declared.node.Node.{Node}
use Rattle.type_graph.specs.declared.node.Node.TheVariants.{Octet, Char, Text, Seq, Array, Struct, Union, Frame}
use Rattle.type_graph.specs.Value.{Tree, Number, Bytes, Items, Choice, Trees, NoTree, AndTree, count, node_at, arm_of, IsNumber, IsNumeric, IsCount, Fits, FitAll}
use Rattle.idl_value.specs.declared.value.Value.{Value}
use Rattle.idl_value.specs.View.{trees_of}
use Rattle.value_text.specs.Pieces.{characters, octet_of, octets_of, joined, paired}
use Rattle.value_text.specs.Says.{SaysNumber, SaysTogether, IsList, Says, SayAll}
use Rattle.value_text.specs.inner.Reading.{Next, IsString, Reads, ReadsAs, ReadsItems, ReadsElements, ReadsParts, ReadsList, ReadsCopies, ReadsMembers, ReadsStructure, ReadsObject}
use Rattle.value_text.specs.inner.Refusing.{IsLow, IsNamed, AreOctets, AreSound, ReadsNone}
use Rattle.value_text.specs.Stringified.{Stringifies, FitsObject}
use Rattle.value_text.specs.Texts.{refers}
use Rattle.value_text.proofs.References.{fits_object}
use Rattle.value_text.proofs.PrintedTexts.{fit_count}
use Rattle.value_text.proofs.ReadLaws.{IsByte, together_byte, count_trees, as_many}
use Rattle.value_text.proofs.Firsts.{IsFirst, number_first}
use Rattle.value_text.proofs.OneNumber.{Is_string, text_in, number_one}
use Rattle.value_text.proofs.OneObject.{first_of_tokens}
use Rattle.value_text.proofs.OneValue.{Is_list, all_low, all_named, one_values, together_or_list}
use Rattle.value_text.proofs.Refusals.{same_end, no_tokens}

-- ---- tokens

-- an octet of a number is one
octet_below : (n : ℤ) → octet_of n < 256
octet_below (negsuc n) = omega arith
octet_below (pos n) = chosen (nat_lt n 256) refl
  where
    chosen : (b : Bool) → nat_lt n 256 ≡ b → (if b then n else 0) < 256
    chosen true e = ltb-true n 256 e
    chosen false e = omega arith

pub are_octets : (values : Trees) → AreOctets (octets_of values)
are_octets NoTree = tt
are_octets (AndTree (Number n) more) = (octet_below n, are_octets more)
are_octets (AndTree (Bytes text) more) = (omega arith, are_octets more)
are_octets (AndTree (Items values) more) = (omega arith, are_octets more)
are_octets (AndTree (Choice label values) more) = (omega arith, are_octets more)

-- elements together are a string
together_string : (node : Node) (octets : List ℕ) (token : Token) (more : List Token)
    → SaysTogether node octets (token ∷ more) → Is_string token
together_string Octet octets token more h = subst Is_string (sym (ap first_of_tokens h.1)) tt
together_string Char octets token more h = subst Is_string (sym (ap first_of_tokens h)) tt
together_string node octets token more h = absurd h

together_alone : (node : Node) (octets : List ℕ) (token : Token) (more : List Token)
    → SaysTogether node octets (token ∷ more) → more ≡ []
together_alone Octet octets token more h = ap (drop 1) h.1
together_alone Char octets token more h = ap (drop 1) h
together_alone node octets token more h = absurd h

-- where a list is cut
list_cut : (texts : List (List Token)) (token : Token) (old more new : List Token) → old ≡ more ++ new
    → IsList texts (token ∷ more) → old ≡ joined texts ++ end_array ∷ new
list_cut texts token old more new cut h = cut ∙ ap (λ l. l ++ new) (ap (drop 1) h)
    ∙ append_assoc (joined texts) (end_array ∷ []) new

module _ (names : List (List (List ℕ))) (graph : List Node) where
  -- ---- single tokens

  pub text_said : (labels : List (List ℕ)) (bound depth : ℕ) (token : Token) (old : List Token) (value : Tree)
      (new : List Token)
      → ReadsAs names graph labels (Text bound) depth token old value new → IsString bound value token
  text_said labels bound depth token old (Bytes text) new a =
      record { text = text; is_text = a.fits; value_is = refl; says = ap first_of_tokens a.says }
  text_said labels bound depth token old value new a = absurd a.fits

  -- the values of a numeric node are numbers
  only_number : (node : Node) (value : Tree) (depth : ℕ) → IsNumeric node → Fits graph node value depth
      → (n : ℤ) × (value ≡ Number n) × IsNumber node n
  only_number node (Number n) depth numeric f = (n, refl, f)
  only_number (Text bound) value depth numeric f = absurd numeric
  only_number (Seq elem bound) value depth numeric f = absurd numeric
  only_number (Array elem n) value depth numeric f = absurd numeric
  only_number (Struct members) value depth numeric f = absurd numeric
  only_number (Frame members) value depth numeric f = absurd numeric
  only_number (Union switch arms default) value depth numeric f = absurd numeric
  only_number node value depth numeric f = absurd f

  pub number_said : (labels : List (List ℕ)) (node : Node) (depth : ℕ) (token : Token) (old : List Token) (value : Tree)
      (new : List Token)
      → IsNumeric node → ReadsAs names graph labels node depth token old value new
      → (n : ℤ) × IsNumber node n × SaysNumber labels node n token
  number_said labels node depth token old value new numeric a =
      let is = only_number node value depth numeric a.fits in
      let said = subst (λ v. Says names graph labels node v (token ∷ a.more)) is.1 a.says in
      (is.0, is.2, subst (SaysNumber labels node is.0) (sym (ap first_of_tokens said.2)) said.1)

  -- ---- elements

  listed : (elem depth : ℕ) (token : Token) (old more new : List Token) (values : Trees) → token ≡ begin_array
      → old ≡ more ++ new
      → FitAll graph (replicate (count values) elem) values depth
      → SaysTogether (node_at graph elem) (octets_of values) (token ∷ more)
      ⊎ ((texts : List (List Token)) × SayAll names graph (replicate (count values) elem) values texts
      × IsList texts (token ∷ more))
      → ReadsList names graph (replicate (count values) elem) depth old values new
  listed elem depth token old more new values opens cut fit (inl h) =
      absurd (subst Is_string opens (together_string (node_at graph elem) (octets_of values) token more h))
  listed elem depth token old more new values opens cut fit (inr h) =
      record { texts = h.0; cut = list_cut h.0 token old more new cut h.2; fit = fit; say = h.1 }

  pub items_listed : (elem depth : ℕ) (token : Token) (old : List Token) (values : Trees) (new : List Token)
      → token ≡ begin_array
      → ReadsItems names graph elem depth token old values new
      → ReadsList names graph (replicate (count values) elem) depth old values new
  items_listed elem depth token old values new opens a =
      listed elem depth token old a.more new values opens a.cut a.fit a.whole

  together : (elem : ℕ) (text : List ℕ) (token : Token) (more : List Token) (values : Trees) → token ≡ string text
      → SaysTogether (node_at graph elem) (octets_of values) (token ∷ more)
      ⊎ ((texts : List (List Token)) × SayAll names graph (replicate (count values) elem) values texts
      × IsList texts (token ∷ more))
      → SaysTogether (node_at graph elem) (octets_of values) (string text ∷ [])
  together elem text token more values is (inl h) =
      let alone = together_alone (node_at graph elem) (octets_of values) token more h in
      subst (λ t. SaysTogether (node_at graph elem) (octets_of values) (t ∷ [])) is
      (subst (λ l. SaysTogether (node_at graph elem) (octets_of values) (token ∷ l)) alone h)
  together elem text token more values is (inr h) = absurd (subst Is_list (sym (ap first_of_tokens h.2) ∙ is) tt)

  pub items_together : (elem depth : ℕ) (text : List ℕ) (token : Token) (old : List Token) (values : Trees)
      (new : List Token) → token ≡ string text
      → ReadsItems names graph elem depth token old values new
      → SaysTogether (node_at graph elem) (octets_of values) (string text ∷ [])
  items_together elem depth text token old values new is a = together elem text token a.more values is a.whole

  -- elements begin with a string or a bracket
  pub items_begin : (elem depth : ℕ) (token : Token) (old : List Token) (values : Trees) (new : List Token)
      → ReadsItems names graph elem depth token old values new
      → Is_string token ⊎ (token ≡ begin_array)
  items_begin elem depth token old values new a = elim a.whole [
    | inl h ↦ inl (together_string (node_at graph elem) (octets_of values) token a.more h)
    | inr h ↦ inr (ap first_of_tokens h.2)
  ]

  pub array_said : (labels : List (List ℕ)) (elem n depth : ℕ) (token : Token) (old : List Token) (value : Tree)
      (new : List Token)
      → ReadsAs names graph labels (Array elem n) depth token old value new → (values : Trees) × (count values ≡ n)
      × ReadsItems names graph elem depth token old values new
  array_said labels elem n depth token old (Items values) new a =
      let counted = fit_count graph n elem depth values a.fits in
      let same = sym counted in (
        values,
        counted,
        record {
          good = a.good;
          more = a.more;
          cut = a.cut;
          fit = subst (λ m. FitAll graph (replicate m elem) values depth) same a.fits;
          whole = subst (λ m. SaysTogether (node_at graph elem) (octets_of values) (token ∷ a.more)
              ⊎ ((texts : List (List Token)) × SayAll names graph (replicate m elem) values texts
              × IsList texts (token ∷ a.more))) same a.says;
        },
      )
  array_said labels elem n depth token old value new a = absurd a.fits

  pub sequence_said : (labels : List (List ℕ)) (elem bound depth : ℕ) (token : Token) (old : List Token) (value : Tree)
      (new : List Token)
      → ReadsAs names graph labels (Seq elem bound) depth token old value new
      → (values : Trees) × (1 ≤ depth) × IsCount bound (count values)
      × ReadsItems names graph elem (depth - 1) token old values new
  sequence_said labels elem bound depth token old (Items values) new a =
      (values, a.fits.0, a.fits.1, record { good = a.good; more = a.more; cut = a.cut; fit = a.fits.2; whole = a.says })
  sequence_said labels elem bound depth token old value new a = absurd a.fits

  -- ---- members

  pub structure_said : (labels : List (List ℕ)) (members : List ℕ) (depth : ℕ) (token : Token) (old : List Token)
      (value : Tree) (new : List Token)
      → ReadsAs names graph labels (Struct members) depth token old value new
      → (values : Trees) × ReadsStructure names graph labels members depth token old values new
  structure_said labels members depth token old (Items values) new a = (
    values,
    elim a.says [
      | inl h ↦ inl (record {
        is_one = h.0;
        text = h.1;
        token_is = ap first_of_tokens h.3;
        spelled = h.2;
        fit = a.fits;
        same = a.cut ∙ ap (λ l. l ++ new) (ap (drop 1) h.3);
      })
      | inr h ↦ inr (record {
        good = a.good;
        more = a.more;
        cut = a.cut;
        fit = a.fits;
        texts = h.0;
        say = h.1;
        whole =
            h.2;
      })
    ],
  )
  structure_said labels members depth token old value new a = absurd a.fits

  pub frame_said : (labels : List (List ℕ)) (members : List ℕ) (depth : ℕ) (token : Token) (old : List Token)
      (value : Tree) (new : List Token)
      → ReadsAs names graph labels (Frame members) depth token old value new
      → (values : Trees) × ReadsMembers names graph labels members depth token old values new
  frame_said labels members depth token old (Items values) new a = (
    values,
    record {
      good = a.good;
      more = a.more;
      cut = a.cut;
      fit = a.fits;
      texts = a.says.0;
      say =
          a.says.1;
      whole = a.says.2;
    },
  )
  frame_said labels members depth token old value new a = absurd a.fits

  pub members_named : (labels : List (List ℕ)) (numbers : List ℕ) (depth : ℕ) (token : Token) (old : List Token)
      (values : Trees) (new : List Token) → token ≡ begin_object
      → ReadsMembers names graph labels numbers depth token old values new
      → ReadsObject names graph labels numbers depth old values new
  members_named labels numbers depth token old values new opens a = elim a.whole [
    | inl h ↦ record {
      texts = a.texts;
      pairs = h.pairs;
      in_some_order = h.in_some_order;
      cut = a.cut ∙ ap (λ l. l ++ new) (ap (drop 1) h.is_object) ∙ append_assoc (paired h.pairs) (end_object ∷ []) new;
      fit = a.fit;
      say = a.say;
    }
    | inr h ↦ absurd (subst Is_list (sym (ap first_of_tokens h) ∙ opens) tt)
  ]

  pub members_row : (labels : List (List ℕ)) (numbers : List ℕ) (depth : ℕ) (token : Token) (old : List Token)
      (values : Trees) (new : List Token) → token ≡ begin_array
      → ReadsMembers names graph labels numbers depth token old values new
      → ReadsList names graph numbers depth old values new
  members_row labels numbers depth token old values new opens a = elim a.whole [
    | inl h ↦ absurd (subst Is_list (sym opens ∙ ap first_of_tokens h.is_object) tt)
    | inr h ↦ record { texts = a.texts; cut = list_cut a.texts token old a.more new a.cut h; fit = a.fit; say = a.say }
  ]

  -- members begin with a brace, where there are as many names, or with a bracket
  pub members_begin : (labels : List (List ℕ)) (numbers : List ℕ) (depth : ℕ) (token : Token) (old : List Token)
      (values : Trees) (new : List Token)
      → ReadsMembers names graph labels numbers depth token old values new
      → ((token ≡ begin_object) × (length labels ≡ length numbers)) ⊎ (token ≡ begin_array)
  members_begin labels numbers depth token old values new a = elim a.whole [
    | inl h ↦ inl (ap first_of_tokens h.is_object, h.named ∙ as_many names graph numbers values a.texts a.say)
    | inr h ↦ inr (ap first_of_tokens h)
  ]

  -- ---- unions

  -- a union's value is its label and what the label chooses
  pub record Chosen (switch : ℕ) (arms : List (ℤ × ℕ)) (default : Option ℕ) (depth : ℕ) (token : Token)
      (old : List Token) (new : List Token) : Type 0 where
    pub opens : token ≡ begin_array
    pub label : ℤ
    pub said : Token
    pub is_number : IsNumber (node_at graph switch) label
    pub says : SaysNumber (names_at names switch) (node_at graph switch) label said
    pub first : List Token
    pub cut : old ≡ said ∷ first
    pub members : Trees
    pub parts : ReadsList names graph (arm_of arms default label) depth first members new

  pub choice_said : (labels : List (List ℕ)) (switch : ℕ) (arms : List (ℤ × ℕ)) (default : Option ℕ) (depth : ℕ)
      (token : Token) (old : List Token) (value : Tree) (new : List Token)
      → ReadsAs names graph labels (Union switch arms default) depth token old value new
      → Chosen switch arms default depth token old new
  choice_said labels switch arms default depth token old (Choice label members) new a = record {
    opens = ap first_of_tokens a.says.4;
    label = label;
    said = a.says.0;
    is_number = a.fits.0;
    says = a.says.1;
    first = joined a.says.2 ++ end_array ∷ new;
    cut = a.cut ∙ ap (λ l. l ++ new) (ap (drop 1) a.says.4)
        ∙ ap (λ l. a.says.0 ∷ l) (append_assoc (joined a.says.2) (end_array ∷ []) new);
    members = members;
    parts = record { texts = a.says.2; cut = refl; fit = a.fits.1; say = a.says.3 };
  }
  choice_said labels switch arms default depth token old value new a = absurd a.fits

  module _ (sound : AreSound names graph) where
    -- what is left of a union behind the label that was read
    pub same_label : (switch : ℕ) (arms : List (ℤ × ℕ)) (default : Option ℕ) (depth : ℕ) (token : Token)
        (old first new : List Token) (n : ℤ) (said : Token)
        → IsNumber (node_at graph switch) n → SaysNumber (names_at names switch) (node_at graph switch) n said
        → old ≡ said ∷ first
        → Chosen switch arms default depth token old new → (members : Trees)
        × ReadsList names graph (arm_of arms default n) depth first members new
    same_label switch arms default depth token old first new n said is_number says cut a =
        let whole = sym a.cut ∙ cut in
        let node = node_at graph switch in
        let own = names_at names switch in
        let same : a.said ≡ said = ap first_of_tokens whole in
        let label = number_one own node a.label n said (all_low graph sound.rules switch)
        (all_named names graph sound.apart switch) a.is_number is_number
        (subst (SaysNumber own node a.label) same a.says) says in (
          a.members,
          subst (λ l. ReadsList names graph (arm_of arms default n) depth l a.members new) (ap (drop 1) whole)
              (subst (λ m. ReadsList names graph (arm_of arms default m) depth a.first a.members new) label a.parts),
        )

    -- elements are one, together or as a list
    pub one_items_read : (elem depth : ℕ) (token : Token) (old : List Token) (vs ws : Trees) (new other : List Token)
        → ReadsItems names graph elem depth token old vs new
        → ReadsItems names graph elem depth token old ws other → vs ≡ ws
    one_items_read elem depth token old vs ws new other a b =
        (together_or_list names graph (all_low graph sound.rules) (all_named names graph sound.apart) elem depth depth
        vs ws (token ∷ a.more) (token ∷ b.more) new other
        (one_values names graph (all_low graph sound.rules) (all_named names graph sound.apart) vs) a.fit b.fit
        a.whole b.whole
        (ap (λ l. token ∷ l) (sym a.cut ∙ b.cut))).0

-- ---- what is refused of a node

module _ (names : List (List (List ℕ))) (graph : List Node) (number depth : ℕ) (token : Token) (old : List Token) where
  abbrev own : List (List ℕ)
  own = names_at names number

  pub no_number : (node : Node) → node ≡ node_at graph number → IsNumeric node
      → (IsLow node → IsNamed node own → (n : ℤ) → IsNumber node n → SaysNumber own node n token → ⊥)
      → ReadsNone names graph (Reads names graph number depth token old)
  no_number node is numeric none = λ sound value new a.
      let said = number_said names graph own node depth token old value new numeric
      (subst (λ at. ReadsAs names graph own at depth token old value new) (sym is) a) in
      none (subst IsLow (sym is) (all_low graph sound.rules number))
      (subst (λ at. IsNamed at own) (sym is) (all_named names graph sound.apart number)) said.0 said.1 said.2

  pub no_text : (bound : ℕ) → Text bound ≡ node_at graph number → ((value : Tree) → IsString bound value token → ⊥)
      → ReadsNone names graph (Reads names graph number depth token old)
  no_text bound is none = λ sound value new a.
      none value (text_said names graph own bound depth token old value new
      (subst (λ at. ReadsAs names graph own at depth token old value new) (sym is) a))

  pub no_depth : (elem bound : ℕ) → Seq elem bound ≡ node_at graph number → depth ≡ 0
      → ReadsNone names graph (Reads names graph number depth token old)
  no_depth elem bound is none = λ sound value new a.
      let said = sequence_said names graph own elem bound depth token old value new
      (subst (λ at. ReadsAs names graph own at depth token old value new) (sym is) a) in
      let deep = said.1 in
      omega (arith, none, deep)

  pub no_sequence : (elem bound least most : ℕ) → Seq elem bound ≡ node_at graph number
      → ((n : ℕ) → ((least ≤ n) × (n ≤ most)) ↔ IsCount bound n)
      → ReadsNone names graph (ReadsElements names graph elem least most (depth - 1) token old)
      → ReadsNone names graph (Reads names graph number depth token old)
  no_sequence elem bound least most is counts none = λ sound value new a.
      let said = sequence_said names graph own elem bound depth token old value new
      (subst (λ at. ReadsAs names graph own at depth token old value new) (sym is) a) in
      let counted = (counts (count said.0)).1 said.2 in
      none sound said.0 new (counted.0, counted.1, said.3)

  pub no_array : (elem n least most : ℕ) → Array elem n ≡ node_at graph number → least ≡ n → most ≡ n
      → ReadsNone names graph (ReadsElements names graph elem least most depth token old)
      → ReadsNone names graph (Reads names graph number depth token old)
  no_array elem n least most is low high none = λ sound value new a.
      let said = array_said names graph own elem n depth token old value new
      (subst (λ at. ReadsAs names graph own at depth token old value new) (sym is) a) in
      let counted = said.1 in
      none sound said.0 new (omega (arith, low, counted), omega (arith, high, counted), said.2)

  pub no_structure : (node : Node) (members listed : List ℕ) → node ≡ node_at graph number → node ≡ Struct members
      → listed ≡ members
      → (AreApart own → ReadsNone names graph (ReadsStructure names graph own listed depth token old))
      → ReadsNone names graph (Reads names graph number depth token old)
  no_structure node members listed is kind same none = λ sound value new a.
      let at = sym is ∙ kind in
      let said = structure_said names graph own members depth token old value new
      (subst (λ at. ReadsAs names graph own at depth token old value new) at a) in
      none (subst (λ at. IsNamed at own) at (all_named names graph sound.apart number)) sound said.0 new
      (subst (λ l. ReadsStructure names graph own l depth token old said.0 new) (sym same) said.1)

  pub no_members : (node : Node) (members listed : List ℕ) → node ≡ node_at graph number → node ≡ Frame members
      → listed ≡ members
      → (AreApart own → ReadsNone names graph (ReadsMembers names graph own listed depth token old))
      → ReadsNone names graph (Reads names graph number depth token old)
  no_members node members listed is kind same none = λ sound value new a.
      let at = sym is ∙ kind in
      let said = frame_said names graph own members depth token old value new
      (subst (λ at. ReadsAs names graph own at depth token old value new) at a) in
      none (subst (λ at. IsNamed at own) at (all_named names graph sound.apart number)) sound said.0 new
      (subst (λ l. ReadsMembers names graph own l depth token old said.0 new) (sym same) said.1)

  pub no_choice : (node : Node) → node ≡ node_at graph number
      → ((labels : List (List ℕ)) → ReadsNone names graph (ReadsAs names graph labels node depth token old))
      → ReadsNone names graph (Reads names graph number depth token old)
  no_choice node is none =
      λ sound value new a. none own sound value new
      (subst (λ at. ReadsAs names graph own at depth token old value new) (sym is) a)

-- ---- what is refused of elements, of members and of a union

module _ (names : List (List (List ℕ))) (graph : List Node) (depth : ℕ) (token : Token) (old : List Token) where
  pub none_fewer : (elem least most : ℕ) → ReadsNone names graph (ReadsElements names graph elem 0 most depth token old)
      → ReadsNone names graph (ReadsElements names graph elem least most depth token old)
  none_fewer elem least most none = λ sound values new a. none sound values new (omega arith, a.1, a.2)

  pub wrong_count : (elem least most : ℕ) (vs : List Value) (mid : List Token)
      → ReadsItems names graph elem depth token old (trees_of vs) mid
      → (((least ≤ length vs) × (length vs ≤ most)) → ⊥)
      → ReadsNone names graph (ReadsElements names graph elem least most depth token old)
  wrong_count elem least most vs mid a wrong = λ sound values new b.
      let same = ap count (one_items_read names graph sound elem depth token old (trees_of vs) values mid new a b.2) in
      let counted = count_trees names graph vs in
      let low = b.0 in
      let high = b.1 in
      wrong (omega (arith, same, counted, low), omega (arith, same, counted, high))

  pub no_list : (elem most : ℕ) → token ≡ begin_array
      → ReadsNone names graph (ReadsCopies names graph elem most depth old)
      → ReadsNone names graph (ReadsElements names graph elem 0 most depth token old)
  no_list elem most opens none =
      λ sound values new a. none sound values new
      (a.1, items_listed names graph elem depth token old values new opens a.2)

  pub none_together : (elem most : ℕ) (text : List ℕ) → token ≡ string text
      → ((octets : List ℕ) → AreOctets octets → SaysTogether (node_at graph elem) octets (string text ∷ []) → ⊥)
      → ReadsNone names graph (ReadsElements names graph elem 0 most depth token old)
  none_together elem most text is none = λ sound values new a.
      none (octets_of values) (are_octets values)
      (items_together names graph elem depth text token old values new is a.2)

  pub no_elements : (elem most : ℕ) → (token ≢ begin_array) → ((text : List ℕ) → token ≡ string text → ⊥)
      → ReadsNone names graph (ReadsElements names graph elem 0 most depth token old)
  no_elements elem most no_bracket no_string =
      λ sound values new a. elim (items_begin names graph elem depth token old values new a.2) [
        | inl h ↦ in_string token no_string h
        | inr h ↦ no_bracket h
      ]
    where
      in_string : (token : Token) → ((text : List ℕ) → token ≡ string text → ⊥) → Is_string token → ⊥
      in_string (string text) none h = none text refl
      in_string token none h = absurd h

  -- what begins with no string is no object reference's string
  pub only_members : (labels : List (List ℕ)) (members : List ℕ) → ((text : List ℕ) → token ≡ string text → ⊥)
      → (AreApart labels → ReadsNone names graph (ReadsMembers names graph labels members depth token old))
      → AreApart labels → ReadsNone names graph (ReadsStructure names graph labels members depth token old)
  only_members labels members no_string none = λ apart sound values new a. elim a [
    | inl h ↦ no_string h.text h.token_is
    | inr h ↦ none apart sound values new h
  ]

  -- a string is nothing else
  pub no_reference : (labels : List (List ℕ)) (members : List ℕ) (text : List ℕ) → token ≡ string text
      → ((value : Tree) → refers graph labels members ≡ true → Stringifies text value → FitsObject value depth → ⊥)
      → AreApart labels → ReadsNone names graph (ReadsStructure names graph labels members depth token old)
  no_reference labels members text is none = λ apart sound values new a. elim a [
    | inl h ↦
        let same : h.text ≡ text = ap text_in (sym h.token_is ∙ is) in
        none (Items values) h.is_one (subst (λ words. Stringifies words (Items values)) same h.spelled)
        (fits_object graph labels members values depth h.is_one h.fit)
    | inr h ↦ elim (members_begin names graph labels members depth token old values new h) [
      | inl k ↦ absurd (subst Is_string (sym is ∙ k.0) tt)
      | inr k ↦ absurd (subst Is_string (sym is ∙ k) tt)
    ]
  ]

  pub no_object : (labels : List (List ℕ)) (members : List ℕ) → token ≡ begin_object → length labels ≡ length members
      → (AreApart labels → length labels ≡ length members
      → ReadsNone names graph (ReadsObject names graph labels members depth old))
      → AreApart labels → ReadsNone names graph (ReadsMembers names graph labels members depth token old)
  no_object labels members opens named none =
      λ apart sound values new a. none apart named sound values new
      (members_named names graph labels members depth token old values new opens a)

  pub no_row : (labels : List (List ℕ)) (members : List ℕ) → token ≡ begin_array
      → ReadsNone names graph (ReadsList names graph members depth old)
      → AreApart labels → ReadsNone names graph (ReadsMembers names graph labels members depth token old)
  no_row labels members opens none =
      λ apart sound values new a. none sound values new
      (members_row names graph labels members depth token old values new opens a)

  pub not_named : (labels : List (List ℕ)) (members : List ℕ) → token ≡ begin_object
      → (length labels ≡ length members → ⊥)
      → AreApart labels → ReadsNone names graph (ReadsMembers names graph labels members depth token old)
  not_named labels members opens none =
      λ apart sound values new a. elim (members_begin names graph labels members depth token old values new a) [
        | inl h ↦ none h.1
        | inr h ↦ absurd (subst Is_list (sym h ∙ opens) tt)
      ]

  pub no_bracket : (labels : List (List ℕ)) (members : List ℕ) → (token ≢ begin_object) → (token ≢ begin_array)
      → AreApart labels → ReadsNone names graph (ReadsMembers names graph labels members depth token old)
  no_bracket labels members no_brace none =
      λ apart sound values new a. elim (members_begin names graph labels members depth token old values new a) [
        | inl h ↦ no_brace h.0
        | inr h ↦ none h
      ]

  module _ (switch : ℕ) (arms : List (ℤ × ℕ)) (default : Option ℕ) where
    pub no_union : (token ≢ begin_array) → (labels : List (List ℕ))
        → ReadsNone names graph (ReadsAs names graph labels (Union switch arms default) depth token old)
    no_union none = λ labels sound value new a. none
        (choice_said names graph labels switch arms default depth token old value new a).opens

    pub no_label : (AreSound names graph → (n : ℤ) (said : Token) (more : List Token)
        → IsNumber (node_at graph switch) n → SaysNumber (names_at names switch) (node_at graph switch) n said
        → old ≡ said ∷ more → ⊥) → (labels : List (List ℕ))
        → ReadsNone names graph (ReadsAs names graph labels (Union switch arms default) depth token old)
    no_label none = λ labels sound value new a.
        let said = choice_said names graph labels switch arms default depth token old value new a in
        none sound said.label said.said said.first said.is_number said.says said.cut

    module _ (n : ℤ) (said : Token) (first : List Token) (is_number : IsNumber (node_at graph switch) n)
        (says : SaysNumber (names_at names switch) (node_at graph switch) n said)
        (cut : old ≡ said ∷ first) where
      pub no_member : (numbers : List ℕ) → numbers ≡ arm_of arms default n
          → ReadsNone names graph (ReadsParts names graph numbers depth first)
          → (labels : List (List ℕ))
          → ReadsNone names graph (ReadsAs names graph labels (Union switch arms default) depth token old)
      no_member numbers is none = λ labels sound value new a.
          let left = same_label names graph sound switch arms default depth token old first new n said is_number says
          cut (choice_said names graph labels switch arms default depth token old value new a) in
          none sound left.0 (end_array ∷ new)
          (subst (λ l. ReadsList names graph l depth first left.0 new) (sym is) left.1)

      pub no_end : (numbers : List ℕ) (vs : Trees) (mid : List Token) → numbers ≡ arm_of arms default n
          → ReadsParts names graph numbers depth first vs mid
          → ((more : List Token) → mid ≡ end_array ∷ more → ⊥)
          → (labels : List (List ℕ))
          → ReadsNone names graph (ReadsAs names graph labels (Union switch arms default) depth token old)
      no_end numbers vs mid is parts endless = λ labels sound value new a.
          let left = same_label names graph sound switch arms default depth token old first new n said is_number says
          cut (choice_said names graph labels switch arms default depth token old value new a) in
          endless new (same_end names graph sound numbers depth first vs left.0 mid new parts
          (subst (λ l. ReadsList names graph l depth first left.0 new) (sym is) left.1))

-- ---- what is refused of elements that stand together

pub no_octets : (graph : List Node) (elem : ℕ) (text : List ℕ) → Octet ≡ node_at graph elem
    → ((octets : List ℕ) → decode_of text ≡ Ok octets → ⊥)
    → (octets : List ℕ) → AreOctets octets → SaysTogether (node_at graph elem) octets (string text ∷ []) → ⊥
no_octets graph elem text is none octets low h =
    let said = subst (λ node. SaysTogether node octets (string text ∷ [])) (sym is) h in
    none octets (ap decode_of (ap text_in (ap first_of_tokens said.1)) ∙ said.2)

pub no_chars : (graph : List Node) (elem : ℕ) (text : List ℕ) → Char ≡ node_at graph elem
    → ((octets : List ℕ) → AreOctets octets → text ≡ characters octets → ⊥)
    → (octets : List ℕ) → AreOctets octets → SaysTogether (node_at graph elem) octets (string text ∷ []) → ⊥
no_chars graph elem text is none octets low h =
    none octets low (ap text_in
    (ap first_of_tokens (subst (λ node. SaysTogether node octets (string text ∷ [])) (sym is) h)))

pub no_bytes : (graph : List Node) (elem : ℕ) (text : List ℕ) → (node_at graph elem ≢ Octet)
    → (node_at graph elem ≢ Char)
    → (octets : List ℕ) → AreOctets octets → SaysTogether (node_at graph elem) octets (string text ∷ []) → ⊥
no_bytes graph elem text no_octet no_char octets low h =
    neither (node_at graph elem) no_octet no_char (together_byte (node_at graph elem) octets (string text ∷ []) h)
  where
    neither : (node : Node) → (node ≢ Octet) → (node ≢ Char) → IsByte node → ⊥
    neither Octet a b h = a refl
    neither Char a b h = b refl
    neither node a b h = absurd h

-- ---- what is refused of a label

module _ (names : List (List (List ℕ))) (graph : List Node) (switch : ℕ) (old : List Token) where
  pub label_missing : (behind : List Token) → old ≡ end_array ∷ behind
      → AreSound names graph → (n : ℤ) (said : Token) (more : List Token) → IsNumber (node_at graph switch) n
      → SaysNumber (names_at names switch) (node_at graph switch) n said
      → old ≡ said ∷ more → ⊥
  label_missing behind ends = λ sound n said more is_number says cut.
      subst IsFirst (sym (ap first_of_tokens (sym ends ∙ cut)))
      (number_first (names_at names switch) (node_at graph switch) n said says)

  pub label_refused : (token : Token) (behind : List Token) (node : Node) (labels : List (List ℕ))
      → node ≡ node_at graph switch → labels ≡ names_at names switch → Next old token behind
      → (IsLow node → IsNamed node labels → (n : ℤ) → IsNumber node n → SaysNumber labels node n token → ⊥)
      → AreSound names graph → (n : ℤ) (said : Token) (more : List Token) → IsNumber (node_at graph switch) n
      → SaysNumber (names_at names switch) (node_at graph switch) n said
      → old ≡ said ∷ more → ⊥
  label_refused token behind node labels is named next none = λ sound n said more is_number says cut.
      refused next (subst (λ at. IsLow at → IsNamed at labels → (n : ℤ) → IsNumber at n → SaysNumber labels at n token
      → ⊥) is none)
      (all_low graph sound.rules switch)
      (subst (IsNamed (node_at graph switch)) (sym named) (all_named names graph sound.apart switch)) n said more
      is_number
      (subst (λ l. SaysNumber l (node_at graph switch) n said) (sym named) says) cut
    where
      refused : Next old token behind
          → (IsLow (node_at graph switch) → IsNamed (node_at graph switch) labels → (n : ℤ)
          → IsNumber (node_at graph switch) n → SaysNumber labels (node_at graph switch) n token → ⊥)
          → IsLow (node_at graph switch) → IsNamed (node_at graph switch) labels
          → (n : ℤ) (said : Token) (more : List Token) → IsNumber (node_at graph switch) n
          → SaysNumber labels (node_at graph switch) n said → old ≡ said ∷ more → ⊥
      refused (inl e) none low apart n said more is_number says cut =
          none low apart n is_number
          (subst (SaysNumber labels (node_at graph switch) n) (ap first_of_tokens (sym cut ∙ e)) says)
      refused (inr e) none low apart n said more is_number says cut = absurd (no_tokens said more (sym e.0 ∙ cut))
