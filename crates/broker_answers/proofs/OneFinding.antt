-- A request asks for one thing.
use Rattle.std.proofs.Common.{◌≡◌, ◌⊎◌, inl, inr, ℕ, false, List, length, drop, Option, Some, None, slice_get, sym, ap, subst, ◌∙◌, pos, arith}
use Rattle.std.proofs.lemmas.List.{drop_at}
use Rattle.type_graph.specs.declared.node.Node.{Node}
use Rattle.type_graph.specs.declared.width.Width.TheVariants.{Four}
use Rattle.type_graph.specs.declared.width.Order.TheVariants.{Big}
use Rattle.type_graph.specs.GraphRules.{IsGraph}
use Rattle.type_graph.specs.Words.{reading, word}
use Rattle.type_graph.proofs.WordLaws.{length-word}
use Rattle.type_graph.proofs.OneTape.{graph_fits_words}
use Rattle.type_graph.proofs.OneReading.{means_once}
use Rattle.type_model.specs.declared.signatures.Interface.{Interface}
use Rattle.type_model.specs.declared.signatures.Operation.{Operation}
use Rattle.giop_types.specs.TapeParts.{counted}
use Rattle.giop_types.specs.GiopNodes.{giop_nodes}
use Rattle.giop_types.proofs.GraphFacts.{giop_is_graph}
use Rattle.giop_messages.specs.Messages.{Asked}
use Rattle.broker_answers.specs.declared.exception.BrokerException.TheVariants.{ObjectNotExist}
use Rattle.broker_answers.specs.Servants.{call_of}
use Rattle.broker_answers.specs.Objects.{Served, object_with, interface_of, is_a}
use Rattle.broker_answers.specs.Findings.{Finding, Refuses, Tells, Calls, Finds, NoObject, AsksType, AsksNoType, AsksWhetherGone, NoOperation, NoArguments, ForServant, IsFor, IsOwn, IsRead, is_a_name, non_existent_name}
use Rattle.broker_answers.specs.inner.FindingSteps.{IsTypeAsked, IsOwnAsked, IsCallAsked, HasOperation}

one_some : {A : Type 0} (x : Option A) (a b : A) → x ≡ Some a → x ≡ Some b → a ≡ b
one_some x a b e f = let same : Some a ≡ Some b = sym e ∙ f in cc

not_both : {A : Type 0} (x : Option A) (a : A) → x ≡ None → x ≡ Some a → ⊥
not_both x a e f = let same : None ≡ Some a = sym e ∙ f in absurd (cc)

-- what is read of a body
read_once : (graph : List Node) → IsGraph graph → (asked : Asked) (node : ℕ) (a b : List ℕ) → IsRead graph asked node a
    → IsRead graph asked node b → a ≡ b
read_once graph rules asked node a b x y =
    (means_once graph (graph_fits_words graph rules) (reading asked.order) 64 node asked.body_at a b x.front y.front
    x.rest y.rest
    x.means y.means (sym x.body_is ∙ y.body_is)).0

counted_once : (a b : List ℕ) → counted a ≡ counted b → a ≡ b
counted_once a b e =
    sym (drop_at (word Big Four (pos (length a))) a 4 (length-word Big Four (pos (length a))))
    ∙ ap (drop 4) e
    ∙ drop_at (word Big Four (pos (length b))) b 4 (length-word Big Four (pos (length b)))

type_once : (interface : Interface) (asked : Asked) (f g : Finding) → IsTypeAsked interface asked f
    → IsTypeAsked interface asked g → f ≡ g
type_once interface asked f g (inl a) (inl b) =
    a.finding_is
    ∙ ap (λ (id : List ℕ). Tells (is_a interface id))
    (counted_once a.id b.id (read_once giop_nodes giop_is_graph asked 26 (counted a.id) (counted b.id) a.read b.read))
    ∙ sym b.finding_is
type_once interface asked f g (inl a) (inr b) = absurd (b.unread (counted a.id) a.read)
type_once interface asked f g (inr a) (inl b) = absurd (a.unread (counted b.id) b.read)
type_once interface asked f g (inr a) (inr b) = a.finding_is ∙ sym b.finding_is

call_once : (graph : List Node) → IsGraph graph
    → (object number : ℕ) (operation : Operation) (asked : Asked) (f g : Finding)
    → IsCallAsked graph object number operation asked f → IsCallAsked graph object number operation asked g → f ≡ g
call_once graph rules object number operation asked f g (inl a) (inl b) =
    a.finding_is
    ∙ ap (λ (tape : List ℕ). Calls (call_of object number tape))
    (read_once graph rules asked operation.request a.tape b.tape a.read b.read)
    ∙ sym b.finding_is
call_once graph rules object number operation asked f g (inl a) (inr b) = absurd (b.unread a.tape a.read)
call_once graph rules object number operation asked f g (inr a) (inl b) = absurd (a.unread b.tape b.read)
call_once graph rules object number operation asked f g (inr a) (inr b) = a.finding_is ∙ sym b.finding_is

has_once : (served : Served) → IsGraph served.model.graph → (object : ℕ) (interface : Interface) (asked : Asked)
    (f g : Finding) → HasOperation served object interface asked f → HasOperation served object interface asked g
    → f ≡ g
has_once served rules object interface asked f g a b =
    let number : a.number ≡ b.number = one_some _ a.number b.number a.is.named b.is.named in
    let there : slice_get served.model.operations b.number ≡ Some a.operation =
    subst (λ (n : ℕ). slice_get served.model.operations n ≡ Some a.operation) number a.is.there in
    let operation : a.operation ≡ b.operation = one_some _ a.operation b.operation there b.is.there in
    call_once served.model.graph rules object b.number b.operation asked f g
    (subst (λ (o : Operation). IsCallAsked served.model.graph object b.number o asked f) operation
    (subst (λ (n : ℕ). IsCallAsked served.model.graph object n a.operation asked f) number a.asked_is)) b.asked_is

own_once : (served : Served) → IsGraph served.model.graph → (object : ℕ) (interface : Interface) (asked : Asked)
    (f g : Finding) → IsOwnAsked served object interface asked f → IsOwnAsked served object interface asked g → f ≡ g
own_once served rules object interface asked f g (inl a) (inl b) = a.finding_is ∙ sym b.finding_is
own_once served rules object interface asked f g (inl a) (inr b) = absurd (not_both _ b.number a.named b.is.named)
own_once served rules object interface asked f g (inr a) (inl b) = absurd (not_both _ a.number b.named a.is.named)
own_once served rules object interface asked f g (inr a) (inr b) = has_once served rules object interface asked f g a b

-- by the operation of a request for an object
data Case (served : Served) (asked : Asked) (object : ℕ) (interface : Interface) (finding : Finding) : Type 0 where
  OfType : asked.operation ≡ is_a_name → IsTypeAsked interface asked finding
      → Case served asked object interface finding
  Gone : asked.operation ≡ non_existent_name → finding ≡ Tells false → Case served asked object interface finding
  Own : IsOwn asked → IsOwnAsked served object interface asked finding → Case served asked object interface finding

two_names : is_a_name ≡ non_existent_name → ⊥
two_names e = let same = ap length e in omega (arith, same)

case_once : (served : Served) → IsGraph served.model.graph → (asked : Asked) (object : ℕ) (interface : Interface)
    (f g : Finding) → Case served asked object interface f → Case served asked object interface g → f ≡ g
case_once served rules asked object interface f g (OfType n a) (OfType m b) = type_once interface asked f g a b
case_once served rules asked object interface f g (OfType n a) (Gone m b) = absurd (two_names (sym n ∙ m))
case_once served rules asked object interface f g (OfType n a) (Own own b) = absurd (own.no_is_a n)
case_once served rules asked object interface f g (Gone n a) (OfType m b) = absurd (two_names (sym m ∙ n))
case_once served rules asked object interface f g (Gone n a) (Gone m b) = a ∙ sym b
case_once served rules asked object interface f g (Gone n a) (Own own b) = absurd (own.no_non_existent n)
case_once served rules asked object interface f g (Own own a) (OfType m b) = absurd (own.no_is_a m)
case_once served rules asked object interface f g (Own own a) (Gone m b) = absurd (own.no_non_existent m)
case_once served rules asked object interface f g (Own own a) (Own other b) =
    own_once served rules object interface asked f g a b

record Found (served : Served) (asked : Asked) (finding : Finding) : Type 0 where
  object : ℕ
  interface : Interface
  is_for : IsFor served asked object interface
  case_is : Case served asked object interface finding

record Unfound (served : Served) (asked : Asked) (finding : Finding) : Type 0 where
  none : object_with served.objects asked.key ≡ None
  finding_is : finding ≡ Refuses ObjectNotExist

by_object : (served : Served) (asked : Asked) (f : Finding) → Finds served asked f
    → Unfound served asked f ⊎ Found served asked f
by_object served asked f (NoObject none is) = inl (record { none = none; finding_is = is })
by_object served asked f (AsksType object interface id is_for name read is) =
    inr (record {
      object = object;
      interface = interface;
      is_for = is_for;
      case_is = OfType name (inl (record { id = id; read = read; finding_is = is }));
    })
by_object served asked f (AsksNoType object interface is_for name unread is) =
    inr (record {
      object = object;
      interface = interface;
      is_for = is_for;
      case_is = OfType name (inr (record { unread = unread; finding_is = is }));
    })
by_object served asked f (AsksWhetherGone object interface is_for name is) =
    inr (record { object = object; interface = interface; is_for = is_for; case_is = Gone name is })
by_object served asked f (NoOperation object interface is_for own named is) =
    inr (record {
      object = object;
      interface = interface;
      is_for = is_for;
      case_is = Own own (inl (record { named = named; finding_is = is }));
    })
by_object served asked f (NoArguments object number operation is_of unread is) =
    inr (record {
      object = object;
      interface = is_of.interface;
      is_for = is_of.is_for;
      case_is = Own is_of.own
          (inr (record {
            number = number;
            operation = operation;
            is = is_of.is;
            asked_is = inr (record { unread = unread; finding_is = is });
          }));
    })
by_object served asked f (ForServant object number operation tape is_of read is) =
    inr (record {
      object = object;
      interface = is_of.interface;
      is_for = is_of.is_for;
      case_is = Own is_of.own
          (inr (record {
            number = number;
            operation = operation;
            is = is_of.is;
            asked_is = inl (record { tape = tape; read = read; finding_is = is });
          }));
    })

found_once : (served : Served) → IsGraph served.model.graph → (asked : Asked) (f g : Finding) → Found served asked f
    → Found served asked g → f ≡ g
found_once served rules asked f g a b =
    let object : a.object ≡ b.object = one_some _ a.object b.object a.is_for.object_is b.is_for.object_is in
    let there : interface_of served b.object ≡ Some a.interface =
    subst (λ (n : ℕ). interface_of served n ≡ Some a.interface) object a.is_for.interface_is in
    let interface : a.interface ≡ b.interface = one_some _ a.interface b.interface there b.is_for.interface_is in
    case_once served rules asked b.object b.interface f g
    (subst (λ (i : Interface). Case served asked b.object i f) interface
    (subst (λ (n : ℕ). Case served asked n a.interface f) object a.case_is)) b.case_is

either_once : (served : Served) → IsGraph served.model.graph → (asked : Asked) (f g : Finding)
    → Unfound served asked f ⊎ Found served asked f → Unfound served asked g ⊎ Found served asked g → f ≡ g
either_once served rules asked f g (inl a) (inl b) = a.finding_is ∙ sym b.finding_is
either_once served rules asked f g (inl a) (inr b) = absurd (not_both _ b.object a.none b.is_for.object_is)
either_once served rules asked f g (inr a) (inl b) = absurd (not_both _ a.object b.none a.is_for.object_is)
either_once served rules asked f g (inr a) (inr b) = found_once served rules asked f g a b

pub finds_once : (served : Served) → IsGraph served.model.graph → (asked : Asked) (f g : Finding) → Finds served asked f
    → Finds served asked g → f ≡ g
finds_once served rules asked f g a b =
    either_once served rules asked f g (by_object served asked f a) (by_object served asked g b)
