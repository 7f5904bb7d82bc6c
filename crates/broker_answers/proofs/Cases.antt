-- Each case of what a request asks for.
use Rattle.std.proofs.Common.{◌≡◌, ◌∙◌, inl, inr, ℕ, Bool, true, false, List, None, Result, Ok, Err, IfOk, OnOk, OnErr, refl, sym, ap₂, subst}
use Rattle.type_model.specs.declared.signatures.Interface.{Interface}
use Rattle.type_model.specs.declared.signatures.Operation.{Operation}
use Rattle.type_model.specs.ModelRules.{Parts}
use Rattle.giop_messages.specs.Messages.{Asked}
use Rattle.broker_answers.specs.declared.exception.BrokerException.TheVariants.{BadOperation, Marshal}
use Rattle.broker_answers.specs.Servants.{call_of}
use Rattle.broker_answers.specs.Objects.{Served, IsNamedOperation, operation_named}
use Rattle.broker_answers.specs.Findings.{Finding, Refuses, Calls, Finds, AsksType, AsksNoType, NoOperation, NoArguments, ForServant, IsFor, IsOwn, IsRead, IsUnread, is_a_name}
use Rattle.broker_answers.specs.inner.FindingSteps.{IsTypeAsked}

pub type_found : (served : Served) (asked : Asked) (object : ℕ) (interface : Interface) (finding : Finding)
    → IsFor served asked object interface → asked.operation ≡ is_a_name → IsTypeAsked interface asked finding
    → Finds served asked finding
type_found served asked object interface finding is_for name (inl h) =
    AsksType object interface h.id is_for name h.read h.finding_is
type_found served asked object interface finding is_for name (inr h) =
    AsksNoType object interface is_for name h.unread h.finding_is

-- ---- the operation of a name, looked up in the model that is served

named_moved : (model other : Parts) (interface : Interface) (name more : List ℕ) (number : ℕ) (operation : Operation)
    → model ≡ other → name ≡ more → IsNamedOperation model interface name number operation
    → IsNamedOperation other interface more number operation
named_moved model other interface name more number operation m n h =
    subst (λ (word : List ℕ). IsNamedOperation other interface word number operation) n
    (subst (λ (parts : Parts). IsNamedOperation parts interface name number operation) m h)

pub not_named : (served : Served) (asked : Asked) (object : ℕ) (interface : Interface) (model : Parts) (name : List ℕ)
    → IsFor served asked object interface → IsOwn asked → model ≡ served.model → name ≡ asked.operation
    → operation_named model interface name ≡ None → Finds served asked (Refuses BadOperation)
not_named served asked object interface model name is_for own m n none =
    NoOperation object interface is_for own
    (sym (ap₂ (λ (parts : Parts) (word : List ℕ). operation_named parts interface word) m n) ∙ none) refl

pub not_read : (served : Served) (asked : Asked) (object number : ℕ) (interface : Interface) (operation : Operation)
    (model : Parts) (name : List ℕ) → IsFor served asked object interface → IsOwn asked → model ≡ served.model
    → name ≡ asked.operation → IsNamedOperation model interface name number operation
    → IsUnread served.model.graph asked operation.request → Finds served asked (Refuses Marshal)
not_read served asked object number interface operation model name is_for own m n is unread =
    NoArguments object number operation
    (record {
      interface = interface;
      is_for = is_for;
      own = own;
      is = named_moved model served.model interface name asked.operation number operation m n is;
    }) unread refl

pub called : (served : Served) (asked : Asked) (object number : ℕ) (interface : Interface) (operation : Operation)
    (model : Parts) (name tape : List ℕ) → IsFor served asked object interface → IsOwn asked → model ≡ served.model
    → name ≡ asked.operation → IsNamedOperation model interface name number operation
    → IsRead served.model.graph asked operation.request tape → Finds served asked (Calls (call_of object number tape))
called served asked object number interface operation model name tape is_for own m n is read =
    ForServant object number operation tape
    (record {
      interface = interface;
      is_for = is_for;
      own = own;
      is = named_moved model served.model interface name asked.operation number operation m n is;
    }) read refl

-- ---- steps

pub if_ok : {A E : Type 0} (r : Result A E) (P Q : A → Type 0) → ((a : A) → P a → Q a) → IfOk r P → IfOk r Q
if_ok (Ok a) P Q h p = h a p
if_ok (Err e) P Q h p = tt

pub both_ways : (b : Bool) → b ≡ true → b ≡ false → ⊥
both_ways b e f = absurd (cc)

pub on_ok : {A E : Type 0} (r : Result A E) (P : Type 0) → P → OnOk r P
on_ok (Ok a) P p = p
on_ok (Err e) P p = tt

pub on_err : {A E : Type 0} (r : Result A E) (P : Type 0) → P → OnErr r P
on_err (Ok a) P p = tt
on_err (Err e) P p = p
