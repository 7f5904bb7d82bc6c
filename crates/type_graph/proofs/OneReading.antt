-- Octets at a position begin with those of at most one value of a node.
use Rattle.std.proofs.Common.{◌≡◌, ℕ, suc, ◌+◌, ◌-◌, ℤ, pos, List, [], ◌∷◌, ◌++◌, length, replicate, refl, sym, ap, ap₂, ◌∙◌, subst, append_assoc, length-append, arith}
use Rattle.type_graph.specs.declared.width.Width.{Width}
use Rattle.type_graph.specs.declared.width.Width.TheVariants.{Four}
use Rattle.type_graph.specs.declared.node.Node.{Node}
use Rattle.type_graph.specs.declared.node.Node.TheVariants.{Text, Seq, Array, Struct, Union, Frame}
use Rattle.type_graph.specs.Words.{Format, word}
use Rattle.type_graph.specs.Value.{Tree, Number, Bytes, Items, Choice, Trees, NoTree, AndTree, count, node_at, number_width, arm_of, Fits, FitAll, tape_of}
use Rattle.type_graph.specs.Encoding.{Aligned, Encodes, EncodeAll, Means}
use Rattle.type_graph.proofs.WordLaws.{length-word, plain_word_same}
use Rattle.type_graph.proofs.Openings.{numeric_alone}
use Rattle.type_graph.proofs.OneTape.{FitsWord, number_numeric, number_same_in, cut_same}

-- two fronts of one list, each cut in two
joined_front : (x x1 x2 y y1 y2 s r : List ℕ) → x ≡ x1 ++ x2 → y ≡ y1 ++ y2 → x ++ s ≡ y ++ r
    → x1 ++ (x2 ++ s) ≡ y1 ++ (y2 ++ r)
joined_front x x1 x2 y y1 y2 s r ex ey e =
    sym (ap (λ l. l ++ s) ex ∙ append_assoc x1 x2 s) ∙ e ∙ ap (λ l. l ++ r) ey ∙ append_assoc y1 y2 r

-- fronts whose parts are the same
joined_same : (x x1 x2 y y1 y2 : List ℕ) → x ≡ x1 ++ x2 → y ≡ y1 ++ y2 → x1 ≡ y1 → x2 ≡ y2 → x ≡ y
joined_same x x1 x2 y y1 y2 ex ey e1 e2 = ex ∙ ap₂ (λ a b. a ++ b) e1 e2 ∙ sym ey

-- two aligned words that begin one list are one, and so are their gaps
aligned_front : (format : Format) (w : Width) (m n : ℤ) (p : ℕ) (x y s r : List ℕ) → Aligned format w m p x
    → Aligned format w n p y → x ++ s ≡ y ++ r → (word format.order w m ≡ word format.order w n) × (x ≡ y) × (s ≡ r)
aligned_front format w m n p x y s r a b e =
    let gaps = cut_same a.octets1 b.octets1 (a.octets2 ++ s) (b.octets2 ++ r) (a.first.long ∙ sym b.first.long)
    (joined_front x a.octets1 a.octets2 y b.octets1 b.octets2 s r a.octets_is b.octets_is e) in
    let long = ap length a.second ∙ length-word format.order w m
    ∙ sym (ap length b.second ∙ length-word format.order w n) in
    let words = cut_same a.octets2 b.octets2 s r long gaps.1 in (
      sym a.second ∙ words.0 ∙ b.second,
      joined_same x a.octets1 a.octets2 y b.octets1 b.octets2 a.octets_is b.octets_is
          gaps.0 words.0,
      words.1,
    )

module _ (graph : List Node) (words : (number : ℕ) → FitsWord (node_at graph number)) (format : Format) where
  mutual
    -- values whose octets at a position begin one list are one, and so are their octets
    pub one_reading : (node : Node) (v u : Tree) (d e p : ℕ) (x y s r : List ℕ) → FitsWord node → Fits graph node v d
        → Fits graph node u e → Encodes format graph node v p x → Encodes format graph node u p y → x ++ s ≡ y ++ r
        → (v ≡ u) × (x ≡ y) × (s ≡ r)
    one_reading node (Number m) (Number n) d e p x y s r f hv hu a b h =
        let front = aligned_front format (number_width node) m n p x y s r a b h in
        (ap Number (number_same_in format.order node m n f hv hu front.0), front.1, front.2)
    one_reading node (Number m) u d e p x y s r f hv hu a b h =
        absurd (numeric_alone graph node u e (number_numeric node m hv) hu)
    one_reading (Text bound) (Bytes t) (Bytes k) d e p x y s r f hv hu a b h =
        let front = aligned_front format Four (pos (suc (length t))) (pos (suc (length k))) p a.octets1 b.octets1
        (a.octets2 ++ s) (b.octets2 ++ r) a.first b.first
        (joined_front x a.octets1 a.octets2 y b.octets1 b.octets2 s r a.octets_is b.octets_is h) in
        let counted = plain_word_same format.order Four (suc (length t)) (suc (length k)) hv.short hu.short front.0 in
        let long : length t ≡ length k = omega (arith, counted) in
        let longs = ap length a.second ∙ length-append t (0 ∷ []) ∙ ap (λ n. n + 1) long
        ∙ sym (ap length b.second ∙ length-append k (0 ∷ [])) in
        let rest = cut_same a.octets2 b.octets2 s r longs front.2 in
        let texts = cut_same t k (0 ∷ []) (0 ∷ []) long (sym a.second ∙ rest.0 ∙ b.second) in (
          ap Bytes texts.0,
          joined_same x a.octets1 a.octets2 y b.octets1 b.octets2 a.octets_is b.octets_is front.1
              rest.0,
          rest.1,
        )
    one_reading (Seq elem bound) (Items vs) (Items us) d e p x y s r f hv hu a b h =
        let front = aligned_front format Four (pos (count vs)) (pos (count us)) p a.octets1 b.octets1 (a.octets2 ++ s)
        (b.octets2 ++ r) a.first b.first
        (joined_front x a.octets1 a.octets2 y b.octets1 b.octets2 s r a.octets_is b.octets_is h) in
        let back = sym (plain_word_same format.order Four (count vs) (count us) hv.1.short hu.1.short front.0) in
        let fits = subst (λ n. FitAll graph (replicate n elem) us (e - 1)) back hu.2 in
        let moved = subst (λ l. EncodeAll format graph (replicate (count us) elem) us (p + length l) b.octets2)
        (sym front.1) b.second in
        let encodes = subst (λ n. EncodeAll format graph (replicate n elem) us (p + length a.octets1) b.octets2) back
        moved in
        let more = one_readings (replicate (count vs) elem) vs us (d - 1) (e - 1) (p + length a.octets1) a.octets2
        b.octets2 s r hv.2 fits a.second encodes front.2 in (
          ap Items more.0,
          joined_same x a.octets1 a.octets2 y b.octets1 b.octets2 a.octets_is b.octets_is front.1
              more.1,
          more.2,
        )
    one_reading (Array elem n) (Items vs) (Items us) d e p x y s r f hv hu a b h =
        let more = one_readings (replicate n elem) vs us d e p x y s r hv hu a b h in
        (ap Items more.0, more.1, more.2)
    one_reading (Struct members) (Items vs) (Items us) d e p x y s r f hv hu a b h =
        let more = one_readings members vs us d e p x y s r hv hu a b h in
        (ap Items more.0, more.1, more.2)
    one_reading (Frame members) (Items vs) (Items us) d e p x y s r f hv hu a b h =
        let more = one_readings members vs us d e p x y s r hv hu a b h in
        (ap Items more.0, more.1, more.2)
    one_reading (Union switch arms default) (Choice m vs) (Choice n us) d e p x y s r f hv hu a b h =
        let node = node_at graph switch in
        let front = aligned_front format (number_width node) m n p a.octets1 b.octets1 (a.octets2 ++ s) (b.octets2 ++ r)
        a.first b.first (joined_front x a.octets1 a.octets2 y b.octets1 b.octets2 s r a.octets_is b.octets_is h) in
        let same = number_same_in format.order node m n (words switch) hv.0 hu.0 front.0 in
        let back = sym same in
        let fits = subst (λ c. FitAll graph (arm_of arms default c) us e) back hu.1 in
        let moved = subst (λ l. EncodeAll format graph (arm_of arms default n) us (p + length l) b.octets2)
        (sym front.1) b.second in
        let encodes = subst (λ c. EncodeAll format graph (arm_of arms default c) us (p + length a.octets1) b.octets2)
        back moved in
        let more = one_readings (arm_of arms default m) vs us d e (p + length a.octets1) a.octets2 b.octets2 s r hv.1
        fits a.second encodes front.2 in (
          ap₂ Choice same more.0,
          joined_same x a.octets1 a.octets2 y b.octets1 b.octets2 a.octets_is b.octets_is front.1
              more.1,
          more.2,
        )
    one_reading node v u d e p x y s r f hv hu a b h = absurd (assumption (hv, hu))

    -- several values one behind the other
    one_readings : (numbers : List ℕ) (vs us : Trees) (d e p : ℕ) (x y s r : List ℕ) → FitAll graph numbers vs d
        → FitAll graph numbers us e → EncodeAll format graph numbers vs p x → EncodeAll format graph numbers us p y
        → x ++ s ≡ y ++ r → (vs ≡ us) × (x ≡ y) × (s ≡ r)
    one_readings [] NoTree NoTree d e p x y s r hv hu a b h =
        let none = a ∙ sym b in
        (refl, none, (cut_same x y s r (ap length none) h).1)
    one_readings (number ∷ numbers) (AndTree v vs) (AndTree u us) d e p x y s r hv hu a b h =
        let first = one_reading (node_at graph number) v u d e p a.octets1 b.octets1 (a.octets2 ++ s) (b.octets2 ++ r)
        (words number) hv.0 hu.0 a.first b.first
        (joined_front x a.octets1 a.octets2 y b.octets1 b.octets2 s r a.octets_is b.octets_is h) in
        let moved = subst (λ l. EncodeAll format graph numbers us (p + length l) b.octets2) (sym first.1) b.second in
        let more = one_readings numbers vs us d e (p + length a.octets1) a.octets2 b.octets2 s r hv.1 hu.1 a.second
        moved first.2 in (
          ap₂ AndTree first.0 more.0,
          joined_same x a.octets1 a.octets2 y b.octets1 b.octets2 a.octets_is b.octets_is
              first.1 more.1,
          more.2,
        )
    one_readings numbers vs us d e p x y s r hv hu a b h = absurd (assumption (hv, hu))

  -- Two readings of octets at a position take the same front of them, and their tapes are one.
  pub means_once : (depth number p : ℕ) (tape1 tape2 octets1 octets2 rest1 rest2 : List ℕ)
      → Means graph format depth number p tape1 octets1 → Means graph format depth number p tape2 octets2
      → octets1 ++ rest1 ≡ octets2 ++ rest2 → (tape1 ≡ tape2) × (octets1 ≡ octets2)
  means_once depth number p t k x y s r a b h =
      let same = one_reading (node_at graph number) a.value b.value depth depth p x y s r (words number) a.fits b.fits
      a.encodes b.encodes h in
      (a.tape_is ∙ ap (tape_of graph (node_at graph number)) same.0 ∙ sym b.tape_is, same.1)
