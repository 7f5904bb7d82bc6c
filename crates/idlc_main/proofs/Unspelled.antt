-- A text that spells no reference.
use Rattle.std.proofs.Common.{ℕ, List, inl}
use Rattle.std.specs.Str.{IsTrimAscii}
use Rattle.reference_listing.specs.Refusal.{RefusesSpelling}
use Rattle.reference_listing.specs.declared.spelled_references.fault.SpellingFault.{SpellingFault}
use Rattle.reference_listing.specs.declared.spelled_references.fault.SpellingFault.TheVariants.{BadIor, BadCorbaloc, NoMemory}
use Rattle.command_tables.specs.Named.{Passing}
use Rattle.command_tables.specs.Texts.{IsTextFor}
use Rattle.idlc_main.specs.Descriptions.{IsNoReference}

pub no_reference : (Reads : Passing) (word whole text : List ℕ) (fault : SpellingFault) → IsTextFor Reads word whole
    → IsTrimAscii whole text
    → RefusesSpelling fault text → IsNoReference Reads word fault
no_reference Reads word whole text BadIor stands bare none =
    inl (record { text = text; is = record { whole = whole; stands = stands; bare = bare }; none = none.1 })
no_reference Reads word whole text BadCorbaloc stands bare none =
    record { text = text; is = record { whole = whole; stands = stands; bare = bare }; none = none.1 }
no_reference Reads word whole text NoMemory stands bare none = tt
