use Rattle.std.proofs.Common.{◌≡◌, ◌∙◌, ◌+◌, ◌<◌, suc, true, false, Some, drop, length, sym, ap, arith}
use Rattle.std.specs.Str.{str_eq_ignore_ascii_case}
use Rattle.name_table.specs.Search.{word}
use Rattle.scoped_names.specs.inner.StateKept.{sought}
use Rattle.scoped_names.proofs.MembersKept.{case_told, sought_here, sought_on}
use Rattle.scoped_names.proofs.members.seek.Goals as goal

pub returns-then-eq_ignore_ascii_case : goal.returns-then-eq_ignore_ascii_case
returns-then-eq_ignore_ascii_case c =
    let ls = c.args.identifiers.now in
    let name = c.args.name.now in
    let l = c.identifier-item.result in
    let k = c.loop-identifier.identifier-index in
    let lt : k < length ls = omega arith in
    let same : str_eq_ignore_ascii_case name (word l) ≡ true =
    sym (case_told c.eq_ignore_ascii_case.result name c.name.result.now c.eq_ignore_ascii_case.ensures.test
    ∙ ap (str_eq_ignore_ascii_case name) c.name.ensures) ∙ c.if-eq_ignore_ascii_case.true in
    ap Some c.at.ensures ∙ sym (sought_here ls k name l lt c.identifier-item.is same) ∙ sym c.loop-identifier.invariant

pub loop-identifier-preserved : goal.loop-identifier-preserved
loop-identifier-preserved c =
    let ls = c.args.identifiers.now in
    let name = c.args.name.now in
    let l = c.identifier-item.result in
    let k = c.loop-identifier.identifier-index in
    let lt : k < length ls = omega arith in
    let next : suc k ≡ k + 1 = omega arith in
    let other : str_eq_ignore_ascii_case name (word l) ≡ false =
    sym (case_told c.eq_ignore_ascii_case.result name c.name.result.now c.eq_ignore_ascii_case.ensures.test
    ∙ ap (str_eq_ignore_ascii_case name) c.name.ensures) ∙ c.if-eq_ignore_ascii_case.false in
    c.loop-identifier.invariant ∙ sought_on ls k name l lt c.identifier-item.is other
    ∙ ap (λ n. sought (drop n ls) name) next
