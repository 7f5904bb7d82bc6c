-- How objects are named to their servers.
use Rattle.std.specs.Prelude.{◌≡◌, ℕ, List, Some, slice_get}
use Rattle.type_graph.specs.Value.{Tree}
use Rattle.giop_messages.specs.Headers.{key_target, profile_target, reference_target}
use Rattle.reference_texts.specs.References.{Reference}
use Rattle.reference_listing.specs.Listings.{Iiop}
use Rattle.call_client.specs.declared.object_calls.form.Form.{Form}
use Rattle.call_client.specs.declared.object_calls.form.Form.TheVariants as forms

-- the form, and the reference of which the profiles are
pub record Naming : Type 0 where
  pub form : Form
  pub reference : Reference

abbrev pub naming : Form → Reference → Naming
naming form reference = record { form = form; reference = reference }

-- the target is the profile at the place
pub record IsProfileAt (profiles : List (ℕ × List ℕ)) (place : ℕ) (target : Tree) : Type 0 where
  pub profile : ℕ × List ℕ
  pub there : slice_get profiles place ≡ Some profile
  pub is : target ≡ profile_target profile

-- in the form
abbrev pub IsTargetIn : Form → Reference → ℕ → Iiop → Tree → Type 0
IsTargetIn forms.Key reference place iiop target = target ≡ key_target iiop.body.key
IsTargetIn forms.Profile reference place iiop target = IsProfileAt reference.profiles place target
IsTargetIn forms.Reference reference place iiop target =
    target ≡ reference_target place reference.type_id reference.profiles

-- The target names the object of this profile, which stands at the place among those of the reference.
abbrev pub IsTarget : Naming → ℕ → Iiop → Tree → Type 0
IsTarget naming place iiop target = IsTargetIn naming.form naming.reference place iiop target
