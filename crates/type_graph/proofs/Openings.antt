-- What the values of each kind of node are in octets: the encoding opened, one law for each kind.
use Rattle.std.proofs.Common.{◌≡◌, ℕ, zero, suc, ◌+◌, ◌-◌, ℤ, pos, true, false, Bool, List, [], ◌∷◌, ◌++◌, length, replicate, Option, refl, sym, ap, ap₂, ◌∙◌, subst, append_assoc}
use Rattle.type_graph.specs.declared.width.Width.{Width}
use Rattle.type_graph.specs.declared.width.Width.TheVariants.{One, Four}
use Rattle.type_graph.specs.declared.width.Order.TheVariants.{Big}
use Rattle.type_graph.specs.declared.node.Node.{Node}
use Rattle.type_graph.specs.declared.node.Node.TheVariants.{Integer, Octet, Char, Boolean, Enum, Text, Seq, Array, Struct, Union, Frame}
use Rattle.type_graph.specs.Words.{Format, word}
use Rattle.type_graph.specs.Relation.{Relation, Then, Many, Chain}
use Rattle.type_graph.specs.Comparison.{Positions, Anywhere, Same}
use Rattle.type_graph.specs.Atoms.{Gap, HeldWord, WordBelow, AnyWord, TextRun, Counted, Chosen}
use Rattle.type_graph.specs.Value.{IsNumeric, Tree, Number, Bytes, Items, Choice, Trees, NoTree, AndTree, count, node_at, IsNumber, number_width, arm_of, Fits, FitAll, tape_of, tapes_of, IsCount}
use Rattle.type_graph.specs.Encoding.{Encodes, EncodeAll, NodeMeans, Means}
use Rattle.type_graph.proofs.RelationLaws.{end_of_cut, same_refl, same_trans, same_at, then_same_anywhere, nothing_then, chain_many}
use Rattle.type_graph.proofs.AtomLaws.{no_gap_one, signed_word, counted_same, chosen_same}

-- a value that is a number
abbrev pub IsANumber : Tree → Type 0
IsANumber (Number n) = Unit {0}
IsANumber value = ⊥

-- Tape and octets are those of one value for each of the nodes.
pub record EachMeans (graph : List Node) (format : Format) (depth : ℕ) (numbers : List ℕ) (p : ℕ)
    (tape octets : List ℕ) : Type 0 where
  pub values : Trees
  pub fits : FitAll graph numbers values depth
  pub tape_is : tape ≡ tapes_of graph numbers values
  pub encodes : EncodeAll format graph numbers values p octets

-- all values of such a node are numbers
pub numeric_alone : (graph : List Node) (node : Node) (value : Tree) (depth : ℕ) → IsNumeric node
    → Fits graph node value depth → IsANumber value
numeric_alone graph node (Number n) d i f = tt
numeric_alone graph (Text bound) v d i f = absurd i
numeric_alone graph (Seq elem bound) v d i f = absurd i
numeric_alone graph (Array elem n) v d i f = absurd i
numeric_alone graph (Struct members) v d i f = absurd i
numeric_alone graph (Union switch arms default) v d i f = absurd i
numeric_alone graph (Frame members) v d i f = absurd i
numeric_alone graph node v d i f = absurd f

module _ (graph : List Node) (format : Format) where
  -- ---- numbers

  -- a number taken apart
  number_to : (depth : ℕ) (node : Node) (value : Tree) (p : ℕ) (tape octets : List ℕ) → IsNumeric node
      → Fits graph node value depth → tape ≡ tape_of graph node value → Encodes format graph node value p octets
      → Then (Gap format (number_width node)) (HeldWord format (number_width node) (IsNumber node)) p tape octets
  number_to d node (Number n) p t x i f e r = record {
    tape1 = [];
    tape2 = t;
    octets1 = r.octets1;
    octets2 = r.octets2;
    tape_is = refl;
    octets_is = r.octets_is;
    first = record { no_tape = refl; gap = r.first };
    second = record { number = n; holds = f; is_word = record { tape_is = e; octets_is = r.second } };
  }
  number_to d node v p t x i f e r = absurd (numeric_alone graph node v d i f)

  -- the gap to the width of a number, and its word
  pub number_means : {S : Positions} (depth : ℕ) (node : Node) → IsNumeric node
      → Same S (NodeMeans graph format depth node)
      (Then (Gap format (number_width node)) (HeldWord format (number_width node) (IsNumber node)))
  number_means d node i = record {
    to = λ p t x s r. number_to d node r.value p t x i r.fits r.tape_is r.encodes;
    from = λ p t x s r. record {
      value = Number r.second.number;
      fits = r.second.holds;
      tape_is = r.tape_is ∙ ap (λ l. l ++ r.tape2) r.first.no_tape ∙ r.second.is_word.tape_is;
      encodes = record {
        octets1 = r.octets1;
        octets2 = r.octets2;
        octets_is = r.octets_is;
        first =
            r.first.gap;
        second = r.second.is_word.octets_is;
      };
    };
  }

  -- an integer: the gap, any word
  pub whole_means : {S : Positions} (depth : ℕ) (w : Width) (signed : Bool)
      → Same S (NodeMeans graph format depth (Integer w signed)) (Then (Gap format w) (AnyWord format w))
  whole_means d w true = same_at
      (same_trans (number_means d (Integer w true) tt) (then_same_anywhere same_refl (signed_word w)))
  whole_means d w false = number_means d (Integer w false) tt

  -- an octet behind the gap to one, which is empty
  pub octet_means_gap : {S : Positions} (depth : ℕ)
      → Same S (NodeMeans graph format depth Octet) (Then (Gap format One) (AnyWord format One))
  octet_means_gap d = number_means d Octet tt

  -- a character behind it
  pub char_means_gap : {S : Positions} (depth : ℕ)
      → Same S (NodeMeans graph format depth Char) (Then (Gap format One) (AnyWord format One))
  char_means_gap d = number_means d Char tt

  -- a boolean behind it
  pub boolean_means_gap : {S : Positions} (depth : ℕ)
      → Same S (NodeMeans graph format depth Boolean) (Then (Gap format One) (WordBelow format One 2))
  boolean_means_gap d = number_means d Boolean tt

  -- what stands behind the gap to one
  pub gap_one_then : {S : Positions} {R : Relation} → Same S (Then (Gap format One) R) R
  gap_one_then = same_at (same_trans (then_same_anywhere no_gap_one same_refl) nothing_then)

  -- an octet: any octet
  pub octet_means : {S : Positions} (depth : ℕ) → Same S (NodeMeans graph format depth Octet) (AnyWord format One)
  octet_means d = same_trans (octet_means_gap d) gap_one_then

  -- a character: any octet
  pub char_means : {S : Positions} (depth : ℕ) → Same S (NodeMeans graph format depth Char) (AnyWord format One)
  char_means d = same_trans (char_means_gap d) gap_one_then

  -- a boolean: 0 or 1
  pub boolean_means : {S : Positions} (depth : ℕ)
      → Same S (NodeMeans graph format depth Boolean) (WordBelow format One 2)
  boolean_means d = same_trans (boolean_means_gap d) gap_one_then

  -- an enumerator: the gap to 4, a word below their number
  pub enum_means : {S : Positions} (depth n : ℕ)
      → Same S (NodeMeans graph format depth (Enum n)) (Then (Gap format Four) (WordBelow format Four n))
  enum_means d n = number_means d (Enum n) tt

  -- ---- strings

  -- a string taken apart
  text_to : (depth bound : ℕ) (value : Tree) (p : ℕ) (tape octets : List ℕ) → Fits graph (Text bound) value depth
      → tape ≡ tape_of graph (Text bound) value → Encodes format graph (Text bound) value p octets
      → Then (Gap format Four) (TextRun format bound) p tape octets
  text_to d bound (Bytes text) p t x f e r = record {
    tape1 = [];
    tape2 = t;
    octets1 = r.first.octets1;
    octets2 = r.first.octets2 ++ r.octets2;
    tape_is = refl;
    octets_is = r.octets_is ∙ ap (λ l. l ++ r.octets2) r.first.octets_is
        ∙ append_assoc r.first.octets1 r.first.octets2 r.octets2;
    first = record { no_tape = refl; gap = r.first.first };
    second = record {
      text = text;
      is_text = f;
      tape_is = e;
      octets_is = ap₂ (λ a b. a ++ b) r.first.second r.second
          ∙ sym (append_assoc (word format.order Four (pos (suc (length text)))) text (0 ∷ []));
    };
  }
  text_to d bound v p t x f e r = absurd f

  -- a string: the gap to 4, its length, octets and zero
  pub text_means : {S : Positions} (depth bound : ℕ)
      → Same S (NodeMeans graph format depth (Text bound)) (Then (Gap format Four) (TextRun format bound))
  text_means d bound = record {
    to = λ p t x s r. text_to d bound r.value p t x r.fits r.tape_is r.encodes;
    from = λ p t x s r.
        let text = r.second.text in
        let size = word format.order Four (pos (suc (length text))) in
        record {
          value = Bytes text;
          fits = r.second.is_text;
          tape_is = r.tape_is ∙ ap (λ l. l ++ r.tape2) r.first.no_tape ∙ r.second.tape_is;
          encodes = record {
            octets1 = r.octets1 ++ size;
            octets2 = text ++ 0 ∷ [];
            octets_is = r.octets_is ∙ ap (λ l. r.octets1 ++ l) (r.second.octets_is ∙ append_assoc size text (0 ∷ []))
                ∙ sym (append_assoc r.octets1 size (text ++ 0 ∷ []));
            first = record {
              octets1 = r.octets1;
              octets2 = size;
              octets_is = refl;
              first = r.first.gap;
              second =
                  refl;
            };
            second = refl;
          };
        };
  }

  -- ---- one for each of some nodes

  -- values one behind the other are a chain
  each_to : (depth : ℕ) (numbers : List ℕ) (values : Trees) (p : ℕ) (tape octets : List ℕ)
      → FitAll graph numbers values depth → tape ≡ tapes_of graph numbers values
      → EncodeAll format graph numbers values p octets
      → Chain (Means graph format depth) numbers p tape octets
  each_to d [] NoTree p t x f e r = record { no_tape = e; no_octets = r }
  each_to d (number ∷ numbers) (AndTree value values) p t x f e r = record {
    tape1 = tape_of graph (node_at graph number) value;
    tape2 = tapes_of graph numbers values;
    octets1 = r.octets1;
    octets2 = r.octets2;
    tape_is = e;
    octets_is = r.octets_is;
    first = record { value = value; fits = f.0; tape_is = refl; encodes = r.first };
    second = each_to d numbers values (p + length r.octets1) (tapes_of graph numbers values) r.octets2 f.1 refl
        r.second;
  }
  each_to d numbers values p t x f e r = absurd f

  -- a chain is values one behind the other
  each_from : (depth : ℕ) (numbers : List ℕ) (p : ℕ) (tape octets : List ℕ)
      → Chain (Means graph format depth) numbers p tape octets → EachMeans graph format depth numbers p tape octets
  each_from d [] p t x r = record { values = NoTree; fits = tt; tape_is = r.no_tape; encodes = r.no_octets }
  each_from d (number ∷ numbers) p t x r =
      let more = each_from d numbers (p + length r.octets1) r.tape2 r.octets2 r.second in
      record {
        values = AndTree r.first.value more.values;
        fits = (r.first.fits, more.fits);
        tape_is = r.tape_is ∙ ap₂ (λ a b. a ++ b) r.first.tape_is more.tape_is;
        encodes = record {
          octets1 = r.octets1;
          octets2 = r.octets2;
          octets_is = r.octets_is;
          first =
              r.first.encodes;
          second = more.encodes;
        };
      }

  -- a value for each is the chain of what they mean
  pub each_means : {S : Positions} (depth : ℕ) (numbers : List ℕ)
      → Same S (EachMeans graph format depth numbers) (Chain (Means graph format depth) numbers)
  each_means d numbers = record {
    to = λ p t x s r. each_to d numbers r.values p t x r.fits r.tape_is r.encodes;
    from = λ p t x s r. each_from d numbers p t x r;
  }

  -- an array's values
  array_to : (depth elem n : ℕ) (value : Tree) (p : ℕ) (tape octets : List ℕ) → Fits graph (Array elem n) value depth
      → tape ≡ tape_of graph (Array elem n) value → Encodes format graph (Array elem n) value p octets
      → EachMeans graph format depth (replicate n elem) p tape octets
  array_to d elem n (Items values) p t x f e r = record { values = values; fits = f; tape_is = e; encodes = r }
  array_to d elem n v p t x f e r = absurd f

  -- an array is a value for each element
  array_each : {S : Positions} (depth elem n : ℕ)
      → Same S (NodeMeans graph format depth (Array elem n)) (EachMeans graph format depth (replicate n elem))
  array_each d elem n = record {
    to = λ p t x s r. array_to d elem n r.value p t x r.fits r.tape_is r.encodes;
    from = λ p t x s r. record { value = Items r.values; fits = r.fits; tape_is = r.tape_is; encodes = r.encodes };
  }

  -- an array: its elements
  pub array_means : {S : Positions} (depth elem n : ℕ)
      → Same S (NodeMeans graph format depth (Array elem n)) (Many n (Means graph format depth elem))
  array_means d elem n = same_trans (array_each d elem n)
      (same_trans (each_means d (replicate n elem)) (chain_many (Means graph format d) n elem))

  -- a structure's values
  struct_to : (depth : ℕ) (members : List ℕ) (value : Tree) (p : ℕ) (tape octets : List ℕ)
      → Fits graph (Struct members) value depth → tape ≡ tape_of graph (Struct members) value
      → Encodes format graph (Struct members) value p octets
      → EachMeans graph format depth members p tape octets
  struct_to d members (Items values) p t x f e r = record { values = values; fits = f; tape_is = e; encodes = r }
  struct_to d members v p t x f e r = absurd f

  -- a structure is a value for each member
  struct_each : {S : Positions} (depth : ℕ) (members : List ℕ)
      → Same S (NodeMeans graph format depth (Struct members)) (EachMeans graph format depth members)
  struct_each d members = record {
    to = λ p t x s r. struct_to d members r.value p t x r.fits r.tape_is r.encodes;
    from = λ p t x s r. record { value = Items r.values; fits = r.fits; tape_is = r.tape_is; encodes = r.encodes };
  }

  -- a structure: its members
  pub struct_means : {S : Positions} (depth : ℕ) (members : List ℕ)
      → Same S (NodeMeans graph format depth (Struct members)) (Chain (Means graph format depth) members)
  struct_means d members = same_trans (struct_each d members) (each_means d members)

  -- a frame's values
  frame_to : (depth : ℕ) (members : List ℕ) (value : Tree) (p : ℕ) (tape octets : List ℕ)
      → Fits graph (Frame members) value depth → tape ≡ tape_of graph (Frame members) value
      → Encodes format graph (Frame members) value p octets
      → EachMeans graph format depth members p tape octets
  frame_to d members (Items values) p t x f e r = record { values = values; fits = f; tape_is = e; encodes = r }
  frame_to d members v p t x f e r = absurd f

  -- a frame is a value for each member
  frame_each : {S : Positions} (depth : ℕ) (members : List ℕ)
      → Same S (NodeMeans graph format depth (Frame members)) (EachMeans graph format depth members)
  frame_each d members = record {
    to = λ p t x s r. frame_to d members r.value p t x r.fits r.tape_is r.encodes;
    from = λ p t x s r. record { value = Items r.values; fits = r.fits; tape_is = r.tape_is; encodes = r.encodes };
  }

  -- a frame: its members
  pub frame_means : {S : Positions} (depth : ℕ) (members : List ℕ)
      → Same S (NodeMeans graph format depth (Frame members)) (Chain (Means graph format depth) members)
  frame_means d members = same_trans (frame_each d members) (each_means d members)

  -- ---- sequences

  -- as many values as nodes
  fit_all_count : (depth elem n : ℕ) (values : Trees) → FitAll graph (replicate n elem) values depth → count values ≡ n
  fit_all_count d elem zero NoTree f = refl
  fit_all_count d elem (suc n) (AndTree value values) f = ap suc (fit_all_count d elem n values f.1)
  fit_all_count d elem n values f = absurd f

  -- a sequence taken apart
  seq_to : (depth elem bound : ℕ) (value : Tree) (p : ℕ) (tape octets : List ℕ)
      → Fits graph (Seq elem bound) value depth → tape ≡ tape_of graph (Seq elem bound) value
      → Encodes format graph (Seq elem bound) value p octets
      → Then (Gap format Four) (Counted format depth bound (λ n. EachMeans graph format (depth - 1) (replicate n elem)))
      p tape octets
  seq_to d elem bound (Items values) p t x f e r = record {
    tape1 = [];
    tape2 = t;
    octets1 = r.first.octets1;
    octets2 = r.first.octets2 ++ r.octets2;
    tape_is = refl;
    octets_is = r.octets_is ∙ ap (λ l. l ++ r.octets2) r.first.octets_is
        ∙ append_assoc r.first.octets1 r.first.octets2 r.octets2;
    first = record { no_tape = refl; gap = r.first.first };
    second = record {
      not_too_deep = f.0;
      number = count values;
      is_count = f.1;
      parts = record {
        tape1 = word Big Four (pos (count values));
        tape2 = tapes_of graph (replicate (count values) elem) values;
        octets1 = r.first.octets2;
        octets2 = r.octets2;
        tape_is = e;
        octets_is = refl;
        first = record { tape_is = refl; octets_is = r.first.second };
        second = record {
          values = values;
          fits = f.2;
          tape_is = refl;
          encodes = subst (λ q. EncodeAll format graph (replicate (count values) elem) values q r.octets2)
              (end_of_cut p r.octets1 r.first.octets1 r.first.octets2 r.first.octets_is) r.second;
        };
      };
    };
  }
  seq_to d elem bound v p t x f e r = absurd f

  -- a sequence put together
  seq_from : (depth elem bound : ℕ) (p : ℕ) (tape octets : List ℕ)
      → Then (Gap format Four) (Counted format depth bound (λ n. EachMeans graph format (depth - 1) (replicate n elem)))
      p tape octets
      → NodeMeans graph format depth (Seq elem bound) p tape octets
  seq_from d elem bound p t x r =
      let c = r.second in
      let each = c.parts.second in
      let n = sym (fit_all_count (d - 1) elem c.number each.values each.fits) in
      let gap_and_word = r.octets1 ++ c.parts.octets1 in
      record {
        value = Items each.values;
        fits = (
          c.not_too_deep,
          subst (λ m. IsCount bound m) n c.is_count,
          subst (λ m. FitAll graph (replicate m elem) each.values (d - 1)) n each.fits,
        );
        tape_is = r.tape_is ∙ ap (λ l. l ++ r.tape2) r.first.no_tape ∙ c.parts.tape_is
            ∙ ap₂ (λ a b. a ++ b) c.parts.first.tape_is each.tape_is
            ∙ ap (λ m. word Big Four (pos m) ++ tapes_of graph (replicate m elem) each.values) n;
        encodes = record {
          octets1 = gap_and_word;
          octets2 = c.parts.octets2;
          octets_is = r.octets_is ∙ ap (λ l. r.octets1 ++ l) c.parts.octets_is
              ∙ sym (append_assoc r.octets1 c.parts.octets1 c.parts.octets2);
          first = record {
            octets1 = r.octets1;
            octets2 = c.parts.octets1;
            octets_is = refl;
            first = r.first.gap;
            second = c.parts.first.octets_is ∙ ap (λ m. word format.order Four (pos m)) n;
          };
          second = subst (λ m. EncodeAll format graph (replicate m elem) each.values (p + length gap_and_word)
              c.parts.octets2) n
              (subst (λ q. EncodeAll format graph (replicate c.number elem) each.values q c.parts.octets2)
              (sym (end_of_cut p gap_and_word r.octets1 c.parts.octets1 refl)) each.encodes);
        };
      }

  -- a sequence: the gap to 4, the count, and so many elements with one of the depth less
  pub seq_means : {S : Positions} (depth elem bound : ℕ)
      → Same S (NodeMeans graph format depth (Seq elem bound))
      (Then (Gap format Four) (Counted format depth bound (λ n. Many n (Means graph format (depth - 1) elem))))
  seq_means d elem bound =
      let each : Same Anywhere (NodeMeans graph format d (Seq elem bound))
      (Then (Gap format Four) (Counted format d bound (λ n. EachMeans graph format (d - 1) (replicate n elem)))) =
      record {
        to = λ p t x s r. seq_to d elem bound r.value p t x r.fits r.tape_is r.encodes;
        from = λ p t x s r. seq_from d elem bound p t x r;
      } in
      same_at (same_trans each
      (then_same_anywhere same_refl
      (counted_same (λ n. same_trans (each_means (d - 1) (replicate n elem))
      (chain_many (Means graph format (d - 1)) n elem)))))

  -- ---- unions

  -- a union taken apart
  union_to : (depth switch : ℕ) (arms : List (ℤ × ℕ)) (default : Option ℕ) (value : Tree) (p : ℕ) (tape octets : List ℕ)
      → Fits graph (Union switch arms default) value depth → tape ≡ tape_of graph (Union switch arms default) value
      → Encodes format graph (Union switch arms default) value p octets
      → Then (Gap format (number_width (node_at graph switch)))
      (Chosen format (number_width (node_at graph switch)) (IsNumber (node_at graph switch))
      (λ a. EachMeans graph format depth (arm_of arms default a))) p tape octets
  union_to d switch arms default (Choice a values) p t x f e r = record {
    tape1 = [];
    tape2 = t;
    octets1 = r.first.octets1;
    octets2 = r.first.octets2 ++ r.octets2;
    tape_is = refl;
    octets_is = r.octets_is ∙ ap (λ l. l ++ r.octets2) r.first.octets_is
        ∙ append_assoc r.first.octets1 r.first.octets2 r.octets2;
    first = record { no_tape = refl; gap = r.first.first };
    second = record {
      number = a;
      holds = f.0;
      parts = record {
        tape1 = word Big (number_width (node_at graph switch)) a;
        tape2 = tapes_of graph (arm_of arms default a) values;
        octets1 = r.first.octets2;
        octets2 = r.octets2;
        tape_is = e;
        octets_is = refl;
        first = record { tape_is = refl; octets_is = r.first.second };
        second = record {
          values = values;
          fits = f.1;
          tape_is = refl;
          encodes = subst (λ q. EncodeAll format graph (arm_of arms default a) values q r.octets2)
              (end_of_cut p r.octets1 r.first.octets1 r.first.octets2 r.first.octets_is) r.second;
        };
      };
    };
  }
  union_to d switch arms default v p t x f e r = absurd f

  -- a union put together
  union_from : (depth switch : ℕ) (arms : List (ℤ × ℕ)) (default : Option ℕ) (p : ℕ) (tape octets : List ℕ)
      → Then (Gap format (number_width (node_at graph switch)))
      (Chosen format (number_width (node_at graph switch)) (IsNumber (node_at graph switch))
      (λ a. EachMeans graph format depth (arm_of arms default a))) p tape octets
      → NodeMeans graph format depth (Union switch arms default) p tape octets
  union_from d switch arms default p t x r =
      let c = r.second in
      let each = c.parts.second in
      let gap_and_word = r.octets1 ++ c.parts.octets1 in
      record {
        value = Choice c.number each.values;
        fits = (c.holds, each.fits);
        tape_is = r.tape_is ∙ ap (λ l. l ++ r.tape2) r.first.no_tape ∙ c.parts.tape_is
            ∙ ap₂ (λ a b. a ++ b) c.parts.first.tape_is each.tape_is;
        encodes = record {
          octets1 = gap_and_word;
          octets2 = c.parts.octets2;
          octets_is = r.octets_is ∙ ap (λ l. r.octets1 ++ l) c.parts.octets_is
              ∙ sym (append_assoc r.octets1 c.parts.octets1 c.parts.octets2);
          first = record {
            octets1 = r.octets1;
            octets2 = c.parts.octets1;
            octets_is = refl;
            first =
                r.first.gap;
            second = c.parts.first.octets_is;
          };
          second = subst (λ q. EncodeAll format graph (arm_of arms default c.number) each.values q c.parts.octets2)
              (sym (end_of_cut p gap_and_word r.octets1 c.parts.octets1 refl)) each.encodes;
        };
      }

  -- a union: the gap to its switch's width, the discriminator, and what it chooses
  pub union_means : {S : Positions} (depth switch : ℕ) (arms : List (ℤ × ℕ)) (default : Option ℕ)
      → Same S (NodeMeans graph format depth (Union switch arms default))
      (Then (Gap format (number_width (node_at graph switch)))
      (Chosen format (number_width (node_at graph switch)) (IsNumber (node_at graph switch))
      (λ a. Chain (Means graph format depth) (arm_of arms default a))))
  union_means d switch arms default =
      let each : Same Anywhere (NodeMeans graph format d (Union switch arms default))
      (Then (Gap format (number_width (node_at graph switch)))
      (Chosen format (number_width (node_at graph switch)) (IsNumber (node_at graph switch))
      (λ a. EachMeans graph format d (arm_of arms default a)))) = record {
        to = λ p t x s r. union_to d switch arms default r.value p t x r.fits r.tape_is r.encodes;
        from = λ p t x s r. union_from d switch arms default p t x r;
      } in
      same_at (same_trans each
      (then_same_anywhere same_refl (chosen_same (λ a h. each_means d (arm_of arms default a)))))
