-- Opening a node and taking pieces from work keep what the work means.
use Rattle.std.proofs.Common.{◌≡◌, ℕ, zero, suc, Bool, true, false, eqb, List, [], ◌∷◌, ◌++◌, length, replicate, Option, Some, None, if◌then◌else◌, refl, sym, ap, subst}
use Rattle.std.specs.List.{AllByRecursion}
use Rattle.std.proofs.lemmas.Bool.{eqb-true, true≢false}
use Rattle.std.proofs.lemmas.Option.{none-some, same_Some}
use Rattle.type_graph.specs.declared.node.Node.{Node}
use Rattle.type_graph.specs.declared.node.Node.TheVariants as nodes
use Rattle.type_graph.specs.Words.{Format}
use Rattle.type_graph.specs.Relation.{Chain}
use Rattle.type_graph.specs.Comparison.{Anywhere, Same}
use Rattle.type_graph.specs.Value.{node_at}
use Rattle.type_graph.specs.Encoding.{NodeMeans, Means}
use Rattle.type_graph.proofs.RelationLaws.{same_refl, same_sym, same_trans, then_same_anywhere, then_nothing, chain_add, chain_many, many_one}
use Rattle.type_graph.proofs.Openings.{array_means, struct_means, frame_means}
use Rattle.routine_checker.specs.Taking.{parts_of, opened, taken_within, and_then, taken, is_done_within, only_part, is_one}
use Rattle.routine_checker.proofs.SetLaws.{both}

-- the two lists of nodes mean the same
pub record SameWork (graph : List Node) (work other : List ℕ) : Type 0 where
  pub same : (format : Format) (depth : ℕ)
      → Same Anywhere (Chain (Means graph format depth) work) (Chain (Means graph format depth) other)

-- a node of the fact was taken, and what is left
pub record TookOne (graph : List Node) (wanted : ℕ → Bool) (work rest : List ℕ) : Type 0 where
  pub number : ℕ
  pub passes : wanted number ≡ true
  pub same : SameWork graph work (number ∷ rest)

-- n nodes of the fact were taken, and what is left
pub record Took (graph : List Node) (n : ℕ) (wanted : ℕ → Bool) (work rest : List ℕ) : Type 0 where
  pub numbers : List ℕ
  pub long : length numbers ≡ n
  pub pass : AllByRecursion (λ number. wanted number ≡ true) numbers
  pub same : SameWork graph work (numbers ++ rest)

-- the only part of a node that has just one, or the node itself: the fact holds of it
pub record OnePart (graph : List Node) (holds : Node → Bool) (number : ℕ) : Type 0 where
  pub part : ℕ
  pub passes : holds (node_at graph part) ≡ true
  pub same : (format : Format) (depth : ℕ)
      → Same Anywhere (Means graph format depth number) (Means graph format depth part)

module _ (graph : List Node) where
  same_work : (work : List ℕ) → SameWork graph work work
  same_work work = record { same = λ format depth. same_refl }

  through : (work middle other : List ℕ) → SameWork graph work middle → SameWork graph middle other
      → SameWork graph work other
  through work middle other a b =
      record { same = λ format depth. same_trans (a.same format depth) (b.same format depth) }

  -- a node means what its parts mean
  parts_mean : (format : Format) (depth : ℕ) (node : Node) (parts : List ℕ) → parts_of node ≡ Some parts
      → Same Anywhere (NodeMeans graph format depth node) (Chain (Means graph format depth) parts)
  parts_mean format d (nodes.Array elem n) parts e =
      subst (λ ps. Same Anywhere (NodeMeans graph format d (nodes.Array elem n)) (Chain (Means graph format d) ps))
      (same_Some (replicate n elem) parts e)
      (same_trans (array_means graph format d elem n) (same_sym (chain_many (Means graph format d) n elem)))
  parts_mean format d (nodes.Struct members) parts e =
      subst (λ ps. Same Anywhere (NodeMeans graph format d (nodes.Struct members)) (Chain (Means graph format d) ps))
      (same_Some members parts e)
      (struct_means graph format d members)
  parts_mean format d (nodes.Frame members) parts e =
      subst (λ ps. Same Anywhere (NodeMeans graph format d (nodes.Frame members)) (Chain (Means graph format d) ps))
      (same_Some members parts e)
      (frame_means graph format d members)
  parts_mean format d node parts e = absurd (none-some parts e)

  -- the parts in the place of the node
  opened_means : (number : ℕ) (parts more : List ℕ) → parts_of (node_at graph number) ≡ Some parts
      → SameWork graph (number ∷ more) (parts ++ more)
  opened_means number parts more e = record {
    same = λ format depth. same_trans
        (then_same_anywhere (parts_mean format depth (node_at graph number) parts e) same_refl)
        (same_sym (chain_add (Means graph format depth) parts more));
  }

  -- ---- taking

  module _ (wanted : ℕ → Bool) where
    -- where the parts take the place of the node
    took_opened : (further : List ℕ → Option (List ℕ))
        → ((work rest : List ℕ) → further work ≡ Some rest → TookOne graph wanted work rest)
        → (number : ℕ) (more rest : List ℕ) (parts : Option (List ℕ)) → parts_of (node_at graph number) ≡ parts
        → opened None further parts more ≡ Some rest → TookOne graph wanted (number ∷ more) rest
    took_opened further ih number more rest None e f = absurd (none-some rest f)
    took_opened further ih number more rest (Some parts) e f =
        let took = ih (parts ++ more) rest f in
        record {
          number = took.number;
          passes = took.passes;
          same =
              through (number ∷ more) (parts ++ more) (took.number ∷ rest) (opened_means number parts more e) took.same;
        }

    took_test : (further : List ℕ → Option (List ℕ))
        → ((work rest : List ℕ) → further work ≡ Some rest → TookOne graph wanted work rest)
        → (number : ℕ) (more rest : List ℕ) (test : Bool) → wanted number ≡ test
        → (if test then Some more else opened None further (parts_of (node_at graph number)) more) ≡ Some rest
        → TookOne graph wanted (number ∷ more) rest
    took_test further ih number more rest true e f =
        record {
          number = number;
          passes = e;
          same =
              subst (λ left. SameWork graph (number ∷ more) (number ∷ left)) (same_Some more rest f)
              (same_work (number ∷ more));
        }
    took_test further ih number more rest false e f =
        took_opened further ih number more rest (parts_of (node_at graph number)) refl f

    took_within : (levels : ℕ) (work rest : List ℕ) → taken_within levels wanted graph work ≡ Some rest
        → TookOne graph wanted work rest
    unfolding taken_within
    took_within zero work rest e = absurd (none-some rest e)
    took_within (suc levels) [] rest e = absurd (none-some rest e)
    took_within (suc levels) (number ∷ more) rest e =
        took_test (taken_within levels wanted graph) (took_within levels) number more rest (wanted number) refl e

    took_more : (n : ℕ) → ((work rest : List ℕ) → taken n wanted graph work ≡ Some rest → Took graph n wanted work rest)
        → (work rest : List ℕ) (first : Option (List ℕ)) → taken_within 64 wanted graph work ≡ first
        → and_then (taken n wanted graph) first ≡ Some rest → Took graph (suc n) wanted work rest
    took_more n ih work rest None e f = absurd (none-some rest f)
    took_more n ih work rest (Some middle) e f =
        let one = took_within 64 work middle e in
        let more = ih middle rest f in
        record {
          numbers = one.number ∷ more.numbers;
          long = ap suc more.long;
          pass = (one.passes, more.pass);
          same = through work (one.number ∷ middle) (one.number ∷ more.numbers ++ rest) one.same
              (record { same = λ format depth. then_same_anywhere same_refl (more.same.same format depth) });
        }

    -- taking keeps what the work means
    pub took : (n : ℕ) (work rest : List ℕ) → taken n wanted graph work ≡ Some rest → Took graph n wanted work rest
    unfolding taken
    took zero work rest e = record {
      numbers = [];
      long = refl;
      pass = tt;
      same =
          subst (λ left. SameWork graph work left) (same_Some work rest e) (same_work work);
    }
    took (suc n) work rest e = took_more n (took n) work rest (taken_within 64 wanted graph work) refl e

  -- ---- the end

  done_opened : (further : List ℕ → Bool) → ((work : List ℕ) → further work ≡ true → SameWork graph work [])
      → (number : ℕ) (more : List ℕ) (parts : Option (List ℕ)) → parts_of (node_at graph number) ≡ parts
      → opened false further parts more ≡ true → SameWork graph (number ∷ more) []
  done_opened further ih number more None e f = absurd (true≢false (sym f))
  done_opened further ih number more (Some parts) e f =
      through (number ∷ more) (parts ++ more) [] (opened_means number parts more e) (ih (parts ++ more) f)

  -- where nothing but empty frames is left, the work means nothing
  pub done_means : (levels : ℕ) (work : List ℕ) → is_done_within levels graph work ≡ true → SameWork graph work []
  unfolding is_done_within
  done_means zero work e = absurd (true≢false (sym e))
  done_means (suc levels) [] e = same_work []
  done_means (suc levels) (number ∷ more) e =
      done_opened (is_done_within levels graph) (done_means levels) number more (parts_of (node_at graph number)) refl e

  -- ---- the only part

  module _ (holds : Node → Bool) where
    only_part_means : (further : ℕ → Bool) → ((number : ℕ) → further number ≡ true → OnePart graph holds number)
        → (number : ℕ) (node : Node) → node_at graph number ≡ node → only_part further node ≡ true
        → OnePart graph holds number
    only_part_means further ih number (nodes.Array elem n) e f =
        let tests = both (eqb n 1) (further elem) f in
        let one = ih elem tests.1 in
        record {
          part = one.part;
          passes = one.passes;
          same = λ format depth.
              let many = same_trans (array_means graph format depth elem 1)
              (same_trans many_one (one.same format depth)) in
              subst (λ node. Same Anywhere (NodeMeans graph format depth node) (Means graph format depth one.part))
              (sym e)
              (subst (λ k. Same Anywhere (NodeMeans graph format depth (nodes.Array elem k))
              (Means graph format depth one.part)) (sym (eqb-true n 1 tests.0)) many);
        }
    only_part_means further ih number (nodes.Struct (member ∷ [])) e f =
        let one = ih member f in
        record {
          part = one.part;
          passes = one.passes;
          same = λ format depth.
              subst (λ node. Same Anywhere (NodeMeans graph format depth node) (Means graph format depth one.part))
              (sym e)
              (same_trans (struct_means graph format depth (member ∷ []))
              (same_trans then_nothing (one.same format depth)));
        }
    only_part_means further ih number node e f = absurd (true≢false (sym f))

    one_test : (further : ℕ → Bool) → ((number : ℕ) → further number ≡ true → OnePart graph holds number)
        → (number : ℕ) (test : Bool) → holds (node_at graph number) ≡ test
        → (if test then true else only_part further (node_at graph number)) ≡ true → OnePart graph holds number
    one_test further ih number true e f = record { part = number; passes = e; same = λ format depth. same_refl }
    one_test further ih number false e f = only_part_means further ih number (node_at graph number) refl f

    -- the node means what its only part means
    pub one_part_means : (levels number : ℕ) → is_one levels holds graph number ≡ true → OnePart graph holds number
    unfolding is_one
    one_part_means zero number e = absurd (true≢false (sym e))
    one_part_means (suc levels) number e =
        one_test (is_one levels holds graph) (one_part_means levels) number (holds (node_at graph number)) refl e
