-- What is seen where a name is sought, and what it finds.
use Rattle.std.proofs.Common.{◌≡◌, ℕ, List, Ok}
use Rattle.std.specs.Prelude.{◌↔◌}
use Rattle.name_table.specs.declared.search.Found.TheVariants.{One}
use Rattle.name_table.specs.declared.search.Sight.{Sight}
use Rattle.name_table.specs.declared.search.Sight.TheVariants.{Unseen, OtherCase, Unclear, Seen}
use Rattle.name_table.specs.Entry.{Entry}
use Rattle.name_table.specs.Search.{found_by}
use Rattle.idl_tree.specs.declared.names.At.{At}
use Rattle.scoped_names.specs.Tests.{found_at}

pub found_finds : (es : List Entry) (at : At) (seen : Sight) (e : ℕ) → (found_at es at seen ≡ Ok e)
    ↔ (found_by seen ≡ One e)
found_finds es at Unseen e = (λ h. cc, λ h. cc)
found_finds es at (OtherCase k) e = (λ h. cc, λ h. cc)
found_finds es at (Unclear a b) e = (λ h. cc, λ h. cc)
found_finds es at (Seen k) e = (λ h. cc, λ h. cc)
