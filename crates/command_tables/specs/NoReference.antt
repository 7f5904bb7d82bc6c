-- Why no reference is printed.
use Rattle.std.specs.Prelude.{◌≡◌, ℕ, List, None}
use Rattle.type_model.specs.ModelRules.{Parts}
use Rattle.reference_texts.specs.declared.fault.ReferenceFault.TheVariants as faults
use Rattle.command_tables.specs.declared.refusal.Refusal.{Refusal}
use Rattle.command_tables.specs.declared.refusal.Refusal.TheVariants.{BadObject, NoInterface, NoReference, NoMemory}
use Rattle.command_words.specs.Requests.{ReferenceParts}
use Rattle.command_tables.specs.References.{IsObject, IsText, interface_named}

-- the interface of the object isn't there
pub record HasNoInterface (model : Parts) (ask : ReferenceParts) (name : List ℕ) : Type 0 where
  pub key : List ℕ
  pub object : IsObject ask.object key name
  pub missing : interface_named name model.interfaces ≡ None

-- the refusal that answers
abbrev pub IsReferenceRefusal : Parts → ReferenceParts → Refusal → Type 0
IsReferenceRefusal model ask BadObject = (key name : List ℕ) → IsObject ask.object key name → ⊥
IsReferenceRefusal model ask (NoInterface name) = HasNoInterface model ask name.now
IsReferenceRefusal model ask (NoReference faults.BadIor) = (text : List ℕ) → IsText model ask text → ⊥
IsReferenceRefusal model ask (NoReference faults.NoMemory) = ⊥
IsReferenceRefusal model ask NoMemory = Unit {0}
IsReferenceRefusal model ask refusal = ⊥
