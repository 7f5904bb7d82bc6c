-- What faults of other calls say.
use Rattle.std.proofs.Common.{◌≡◌, ℕ, List, subst}
use Rattle.std.specs.Bool.{OnFalse}
use Rattle.reference_texts.specs.Places.{Place}
use Rattle.reference_texts.specs.CorbalocRefusal.{wants_memory as url_wants_memory}
use Rattle.reference_texts.specs.declared.corbaloc.fault.CorbalocFault.{CorbalocFault}
use Rattle.reference_texts.specs.declared.corbaloc.fault.CorbalocFault.TheVariants as urls
use Rattle.reference_texts.specs.References.{Reference}
use Rattle.reference_texts.specs.Profiles.{IsProfile}
use Rattle.reference_texts.specs.Refusal.{wants_memory}
use Rattle.reference_texts.specs.declared.fault.ReferenceFault.{ReferenceFault}
use Rattle.reference_texts.specs.declared.fault.ReferenceFault.TheVariants as references
use Rattle.reference_listing.specs.Spelled.{IsOfPlace}

pub bad_url : (fault : CorbalocFault) (P : Type 0) → fault ≡ urls.BadCorbaloc → OnFalse (url_wants_memory fault) P → P
bad_url urls.BadCorbaloc P e h = h
bad_url urls.NoMemory P e h = absurd (cc)

pub bad_ior : (fault : ReferenceFault) (P : Type 0) → fault ≡ references.BadIor → OnFalse (wants_memory fault) P → P
bad_ior references.BadIor P e h = h
bad_ior references.NoMemory P e h = absurd (cc)

-- where the place has no profile, there is no reference to its object
pub no_reference : (fault : ReferenceFault) (place : Place) (host key : List ℕ) → host ≡ place.host → key ≡ place.key
    → OnFalse (wants_memory fault) ((octets : List ℕ) → IsProfile host place.port key octets → ⊥)
    → OnFalse (wants_memory fault) ((reference : Reference) → IsOfPlace place reference → ⊥)
no_reference references.NoMemory place host key e f h = tt
no_reference references.BadIor place host key e f h = λ reference is.
    let moved : (octets : List ℕ) → IsProfile place.host place.port place.key octets → ⊥ =
    subst (λ (k : List ℕ). (octets : List ℕ) → IsProfile place.host place.port k octets → ⊥) f
    (subst (λ (n : List ℕ). (octets : List ℕ) → IsProfile n place.port key octets → ⊥) e h) in
    moved is.octets is.profile
