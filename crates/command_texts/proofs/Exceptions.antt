-- Exceptions that are raised.
use Rattle.std.proofs.Common.{◌≡◌, ◌⊎◌, inl, inr, ℕ, zero, suc, Bool, true, false, List, [], ◌∷◌, sym, subst}
use Rattle.std.proofs.Common.{Option, Some, None, slice_get, IfNone, if◌then◌else◌}
use Rattle.std.specs.List.{AllByRecursion}
use Rattle.std.proofs.lemmas.List.Elements.{recursion_from_All}
use Rattle.type_model.specs.declared.signatures.Exception.{Exception}
use Rattle.type_model.specs.Names.{IsNamed}
use Rattle.type_model.specs.ModelRules.{Parts, IsModel, IsException}
use Rattle.giop_messages.specs.Messages.{Answered}
use Rattle.type_model.specs.Exceptions.{exception_with, has_id}
use Rattle.command_texts.specs.Bodies.{HasNoValue}
use Rattle.command_texts.specs.Outcomes.{IsNoneRaised, Unknown, Unread}
use Rattle.command_texts.specs.inner.Ids.{IsFrameOfRaised, IsUnknown}

some_is : {A : Type 0} (a b : A) → Some a ≡ Some b → a ≡ b
some_is a b e = cc

all_at : {A : Type 0} (P : A → Type 0) (xs : List A) (i : ℕ) (x : A) → AllByRecursion P xs → slice_get xs i ≡ Some x
    → P x
all_at P [] i x all e = absurd (cc)
all_at P (y ∷ ys) zero x all e = subst P (some_is y x e) all.0
all_at P (y ∷ ys) (suc i) x all e = all_at P ys i x all.1 e

chosen : (b : Bool) (one other : Option Exception) (e : Exception) → (if b then one else other) ≡ Some e
    → (one ≡ Some e) ⊎ (other ≡ Some e)
chosen true one other e h = inl h
chosen false one other e h = inr h

-- what is found is one of the model's
found_there : (model : Parts) (id numbers : List ℕ) (e : Exception) → exception_with model id numbers ≡ Some e
    → (place : ℕ) × (slice_get model.exceptions place ≡ Some e)
found_there model id [] e h = absurd (cc)
found_there model id (number ∷ more) e h =
    elim (chosen (has_id id (slice_get model.exceptions number)) (slice_get model.exceptions number)
    (exception_with model id more) e h) [ inl here ↦ (number, here) | inr behind ↦ found_there model id more e behind ]

-- so its frame has a name
pub frame_named : (model lent : Parts) (id numbers : List ℕ) (e : Exception) → lent ≡ model → IsModel lent
    → Some e ≡ exception_with lent id numbers → IsNamed model.names e.frame
frame_named model lent id numbers e same rules found =
    let there = found_there lent id numbers e (sym found) in
    let P = IsException lent.graph lent.names in
    let named : IsNamed lent.names e.frame =
    (all_at P lent.exceptions there.0 e (recursion_from_All P lent.exceptions rules.declared.each_exception)
    there.1).frame.named in
    subst (λ (m : Parts). IsNamed m.names e.frame) same named

pub unknown : (model : Parts) (exceptions : List ℕ) (answered : Answered) → IsUnknown model exceptions answered
    → IsNoneRaised model exceptions answered
unknown model exceptions answered u = Unknown u.id u.id_is u.none

pub unread : (model : Parts) (exceptions : List ℕ) (answered : Answered) (frame : ℕ)
    → IsFrameOfRaised model exceptions answered frame
    → HasNoValue model.graph answered.order frame answered.body_at answered.body
    → IsNoneRaised model exceptions answered
unread model exceptions answered frame f none =
    Unread f.exception f.raised
    (subst (λ (n : ℕ). HasNoValue model.graph answered.order n answered.body_at answered.body) f.frame_is none)

pub none_weaker : {A : Type 0} (o : Option A) (P Q : Type 0) → (P → Q) → IfNone o P → IfNone o Q
none_weaker None P Q f h = f h
none_weaker (Some a) P Q f h = tt
