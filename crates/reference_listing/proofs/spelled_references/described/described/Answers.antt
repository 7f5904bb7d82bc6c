use Rattle.std.proofs.Common.{List, ℕ, subst, sym}
use Rattle.std.proofs.lemmas.Result.{IfOk-weaker}
use Rattle.reference_texts.specs.Encapsulations.{Encapsulates, IsSo}
use Rattle.reference_texts.specs.Manners.{manner_of}
use Rattle.reference_texts.specs.References.{reference_of, reference_tree}
use Rattle.reference_texts.proofs.TextLaws.{spelled_there}
use Rattle.reference_listing.proofs.Manners.{so_of}
use Rattle.reference_listing.proofs.spelled_references.described.described.Goals as goal

pub returns-in-Ok : goal.returns-in-Ok
returns-in-Ok c =
    let reference = reference_of c.args.ior.now in
    let octets = c.in_ok-octets.octets.items in
    let there = spelled_there c.args.text.now octets reference c.in_ok-octets.ensures c.requires in
    let manner = manner_of c.in-Ok.manner in
    let is = subst (λ (o : List ℕ). IsSo 13 manner o) c.as_slice.ensures.value c.in-Ok.ensures.found in
    IfOk-weaker c.reference_text.result _ _
    (λ lines h. record {
      octets = octets;
      spelled = c.in_ok-octets.ensures;
      told = h octets (so_of 13 (reference_tree reference) manner octets there is);
    }) c.reference_text.ensures

pub unreachable-requires : goal.unreachable-requires
unreachable-requires c =
    let reference = reference_of c.args.ior.now in
    let octets = c.in_ok-octets.octets.items in
    let there = spelled_there c.args.text.now octets reference c.in_ok-octets.ensures c.requires in
    let none = rw c.in-Err-BadIor.field-0-is at c.in-Err-BadIor.ensures.refused in
    none (reference_tree reference)
    (subst (λ (o : List ℕ). Encapsulates 13 (reference_tree reference) o) (sym c.as_slice.ensures.value) there)
