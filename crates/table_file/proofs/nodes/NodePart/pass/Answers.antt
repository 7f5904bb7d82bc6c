use Rattle.std.proofs.Common.{◌≡◌, ◌<◌, arith}
use Rattle.table_file.specs.Spelling.{tagged_node}
use Rattle.table_file.specs.inner.NodeCode.{is_whole, is_octet, is_char, is_boolean, is_enum, is_text, is_seq, is_array, is_struct, is_union, is_frame, node_few, node_code}
use Rattle.table_file.specs.inner.Ones.{one_node}
use Rattle.table_file.proofs.PassLaws.{kind_alone, kind_passes, kinds_stop}
use Rattle.table_file.proofs.nodes.NodePart.pass.Goals as goal

pub returns-in-Some-eq0 : goal.returns-in-Some-eq0
returns-in-Some-eq0 c =
    kind_passes is_whole (λ n. n < 11) _ _ _ _ _ (omega (arith, c.in-Some-eq0.field-0-test)) c.in-Some-eq0.ensures
    c.pass.ensures

pub returns-in-Some-eq1 : goal.returns-in-Some-eq1
returns-in-Some-eq1 c =
    kind_alone is_octet (λ n. n < 11) _ _ _ (omega (arith, c.in-Some-eq1.field-0-test)) c.in-Some-eq1.ensures

pub returns-in-Some-eq2 : goal.returns-in-Some-eq2
returns-in-Some-eq2 c =
    kind_alone is_char (λ n. n < 11) _ _ _ (omega (arith, c.in-Some-eq2.field-0-test)) c.in-Some-eq2.ensures

pub returns-in-Some-eq3 : goal.returns-in-Some-eq3
returns-in-Some-eq3 c =
    kind_alone is_boolean (λ n. n < 11) _ _ _ (omega (arith, c.in-Some-eq3.field-0-test)) c.in-Some-eq3.ensures

pub returns-in-Some-eq4 : goal.returns-in-Some-eq4
returns-in-Some-eq4 c =
    kind_passes is_enum (λ n. n < 11) _ _ _ _ _ (omega (arith, c.in-Some-eq4.field-0-test)) c.in-Some-eq4.ensures
    c.pass-in-Some-eq4.ensures

pub returns-in-Some-eq5 : goal.returns-in-Some-eq5
returns-in-Some-eq5 c =
    kind_passes is_text (λ n. n < 11) _ _ _ _ _ (omega (arith, c.in-Some-eq5.field-0-test)) c.in-Some-eq5.ensures
    c.pass-in-Some-eq5.ensures

pub returns-in-Some-eq6 : goal.returns-in-Some-eq6
returns-in-Some-eq6 c =
    kind_passes is_seq (λ n. n < 11) _ _ _ _ _ (omega (arith, c.in-Some-eq6.field-0-test)) c.in-Some-eq6.ensures
    c.pass-in-Some-eq6.ensures

pub returns-in-Some-eq7 : goal.returns-in-Some-eq7
returns-in-Some-eq7 c =
    kind_passes is_array (λ n. n < 11) _ _ _ _ _ (omega (arith, c.in-Some-eq7.field-0-test)) c.in-Some-eq7.ensures
    c.pass-in-Some-eq7.ensures

pub returns-in-Some-eq8 : goal.returns-in-Some-eq8
returns-in-Some-eq8 c =
    kind_passes is_struct (λ n. n < 11) _ _ _ _ _ (omega (arith, c.in-Some-eq8.field-0-test)) c.in-Some-eq8.ensures
    c.pass-in-Some-eq8.ensures

pub returns-in-Some-eq9 : goal.returns-in-Some-eq9
returns-in-Some-eq9 c =
    kind_passes is_union (λ n. n < 11) _ _ _ _ _ (omega (arith, c.in-Some-eq9.field-0-test)) c.in-Some-eq9.ensures
    c.pass-in-Some-eq9.ensures

pub returns-in-Some : goal.returns-in-Some
returns-in-Some c =
    let below = c.in-Some.ensures.passes.0 in
    let tag : c.in-Some.field-0 ≡ 10 = omega (arith, below, c.in-Some.field-0-test) in
    kind_passes is_frame (λ n. n < 11) _ _ _ _ _ tag c.in-Some.ensures c.pass-in-Some.ensures

pub returns-in-None : goal.returns-in-None
returns-in-None c = kinds_stop tagged_node 11 node_few node_code one_node _ _ c.in-None.ensures
