use Rattle.std.proofs.Common.{◌≡◌, ◌<◌, List, length, get_or, ap, subst, sym, ◌∙◌, arith}
use Rattle.type_paths.specs.Sites.{Sites, Types}
use Rattle.type_paths.proofs.SiteLaws.{first_line, no_line, none_up_to}
use Rattle.type_paths.proofs.sited.Sited.line_of.Goals as goal

pub returns-in-Some : goal.returns-in-Some
returns-in-Some c =
    let same = ap (λ (t : Types). t.sites) c.self.view_is in
    let lt : c.loop-sites.sites-index < length c.args.self.now.sites =
    subst (λ (all : List Sites). c.loop-sites.sites-index < length all) same c.loop-sites-test.true in
    let is = subst (λ (all : List Sites). c.sites-item.result ≡ get_or all c.loop-sites.sites-index c.sites-item.result)
    same c.sites-item.is in
    first_line c.args.self.now c.args.token c.loop-sites.sites-index c.sites-item.result c.in-Some.at lt is
    (sym c.known.ensures ∙ c.in-Some.is) c.loop-sites.invariant

pub returns : goal.returns
returns c =
    let same = ap (λ (t : Types). length t.sites) c.self.view_is in
    no_line c.args.self.now c.args.token c.loop-sites.sites-index (omega arith) c.loop-sites.invariant

pub loop-sites-preserved : goal.loop-sites-preserved
loop-sites-preserved c =
    let same = ap (λ (t : Types). t.sites) c.self.view_is in
    let lt : c.loop-sites.sites-index < length c.args.self.now.sites =
    subst (λ (all : List Sites). c.loop-sites.sites-index < length all) same c.loop-sites-test.true in
    let is = subst (λ (all : List Sites). c.sites-item.result ≡ get_or all c.loop-sites.sites-index c.sites-item.result)
    same c.sites-item.is in
    none_up_to c.args.token c.args.self.now.sites c.loop-sites.sites-index c.sites-item.result lt is
    (sym c.known.ensures ∙ c.in_default.is) c.loop-sites.invariant
