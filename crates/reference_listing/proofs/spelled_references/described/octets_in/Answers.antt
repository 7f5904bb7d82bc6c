use Rattle.reference_listing.proofs.spelled_references.described.octets_in.Goals as goal

pub unreachable-requires : goal.unreachable-requires
unreachable-requires c =
    let none = rw c.in-Err-BadIor.field-0-is at c.in-Err-BadIor.ensures.refused in
    none c.requires.octets c.requires.spelled_so
