-- The reference that is asked for, and why there is none.
use Rattle.std.proofs.Common.{◌≡◌, ℕ, List, Some, sym, ap, ◌∙◌, subst}
use Rattle.std.specs.Bool.{OnFalse}
use Rattle.type_model.specs.declared.signatures.Interface.{Interface}
use Rattle.type_model.specs.ModelRules.{Parts}
use Rattle.reference_texts.specs.declared.fault.ReferenceFault.{ReferenceFault}
use Rattle.reference_texts.specs.declared.fault.ReferenceFault.TheVariants as faults
use Rattle.reference_texts.specs.References.{Reference}
use Rattle.reference_texts.specs.Profiles.{IsProfile}
use Rattle.reference_texts.specs.Refusal.{wants_memory}
use Rattle.reference_texts.specs.Texts.{IsTextOf}
use Rattle.reference_texts.proofs.ProfileLaws.{profile_once}
use Rattle.command_tables.specs.declared.refusal.Refusal.{Refusal}
use Rattle.command_words.specs.Requests.{ReferenceParts}
use Rattle.command_tables.specs.References.{IsObject, IsReferenceText, IsText, interface_named, reference_with}
use Rattle.command_tables.specs.NoReference.{IsReferenceRefusal}
use Rattle.command_tables.specs.Refusal.{refusal_of_reference}
use Rattle.command_tables.proofs.Objects.{object_once}

-- of a host and a key that were lent
lent : (host key h k : List ℕ) (port : ℕ) (octets : List ℕ) → h ≡ host → k ≡ key → IsProfile host port key octets
    → IsProfile h port k octets
lent host key h k port octets e f is =
    subst (λ (l : List ℕ). IsProfile l port k octets) (sym e)
    (subst (λ (l : List ℕ). IsProfile host port l octets) (sym f) is)

pub no_profile : (host key id h k : List ℕ) (port : ℕ) → h ≡ host → k ≡ key
    → ((octets : List ℕ) → IsProfile h port k octets → ⊥) → (text : List ℕ) → IsReferenceText host port key id text → ⊥
no_profile host key id h k port e f none text t = none t.octets (lent host key h k port t.octets e f t.profile)

pub text_there : (host key id h k i octets : List ℕ) (port : ℕ) (reference : Reference) → h ≡ host → k ≡ key → i ≡ id
    → IsProfile h port k octets → reference ≡ reference_with i octets → (text : List ℕ)
    → IsReferenceText host port key id text → IsTextOf reference text
text_there host key id h k i octets port reference e f g is same text t =
    let one = profile_once h port k octets t.octets is (lent host key h k port t.octets e f t.profile) in
    let whole : reference_with id t.octets ≡ reference = ap (reference_with id) (sym one)
    ∙ ap (λ l. reference_with l octets) (sym g) ∙ sym same in
    subst (λ (r : Reference). IsTextOf r text) whole t.text_is

some_same : (a b : Interface) → Some a ≡ Some b → a ≡ b
some_same a b e = cc

-- the object and its interface are the ones that were found
text_of_it : (model : Parts) (ask : ReferenceParts) (key name id : List ℕ) (interface : Interface)
    → IsObject ask.object key name
    → interface_named name model.interfaces ≡ Some interface → id ≡ interface.id → (text : List ℕ)
    → IsText model ask text
    → IsReferenceText ask.host ask.port key id text
text_of_it model ask key name id interface o found e text t =
    let same = object_once ask.object t.key t.name key name t.object o in
    let one : t.interface ≡ interface =
    some_same t.interface interface (sym t.named ∙ ap (λ n. interface_named n model.interfaces) same.1 ∙ found) in
    let ids : t.interface.id ≡ id = ap (λ (i : Interface). i.id) one ∙ sym e in
    subst (λ (i : List ℕ). IsReferenceText ask.host ask.port key i text) ids
    (subst (λ (k : List ℕ). IsReferenceText ask.host ask.port k t.interface.id text) same.0 t.reference)

by_fault : (model : Parts) (ask : ReferenceParts) (key name id : List ℕ) (interface : Interface)
    (fault : ReferenceFault)
    → IsObject ask.object key name → interface_named name model.interfaces ≡ Some interface → id ≡ interface.id
    → OnFalse (wants_memory fault) ((text : List ℕ) → IsReferenceText ask.host ask.port key id text → ⊥)
    → IsReferenceRefusal model ask (refusal_of_reference fault)
by_fault model ask key name id interface faults.NoMemory o found e h = tt
by_fault model ask key name id interface faults.BadIor o found e h =
    λ text t. h text (text_of_it model ask key name id interface o found e text t)

pub refused : (model : Parts) (ask : ReferenceParts) (key name id : List ℕ) (interface : Interface)
    (fault : ReferenceFault)
    (refusal : Refusal) → refusal ≡ refusal_of_reference fault → IsObject ask.object key name
    → interface_named name model.interfaces ≡ Some interface → id ≡ interface.id
    → OnFalse (wants_memory fault) ((text : List ℕ) → IsReferenceText ask.host ask.port key id text → ⊥)
    → IsReferenceRefusal model ask refusal
refused model ask key name id interface fault refusal is o found e h =
    subst (λ (r : Refusal). IsReferenceRefusal model ask r) (sym is)
    (by_fault model ask key name id interface fault o found e h)
