-- `into_loose` hands on what the handle owns, where it is loaded.
use Rattle.std.proofs.Common.{◌≡◌, List, [], ◌∷◌, ◌++◌, refl, sym, ap, ◌∙◌, subst, lit<}
use mathlib.Core.Bool.{Bool, true, false}
use mir.Val.{Val, vptr, vcons, vnil}
use base.Logic.{SProp, ent, id⊢}
use base.Fml.{ftrue, fsep}
use prog.Wp.{WpFn}
use types.Kit.{‵, raw, ◌⊛◌, at_ret, ◌$◌, ◌∵◌, !, qed, done, move, drop, split, join, fsplit, fjoin, suffices, use0, use1}
use types.Run.{stop, fld, lit, of_opd, no_more, and_then, first, branches, exec, returns, enter}
use types.ByLocal.{alloc_all, pass_all, free_all, look_at, get, get_in, sets, sets_last, env}
use types.Part.{agg, sub, whole}
use types.Match.{live}
use contract.Running.{tables}
use denote.Exit.{yes}
use denote.Param.{layout}
use denote.RattleType.{RattleType}
use denote.RawPtr.{block_ptr}
use denote.Signature.{plain}
use denote.Steps.{nothing}
use denote.Triple.Walked.{says, Stays, stay_dropped, walk_of, ends_at, Goes-dropped}
use Rattle.core.proofs.alloc.Shapes.{after}
use Rattle.core.proofs.atomic.Steps.{Ptr-Good}
use Rattle.core.proofs.cell.Inside.{Good}
use Rattle.core.proofs.option.Made.{Some-of, none_of}
use Rattle.core.specs.contracts.option.Option as option
use Rattle.std.specs.declared.option.Option.TheVariants.{None, Some}
use Rattle.std.specs.contracts.impls.GlobalAllocator.TheImpl.{ghosts}
use Rattle.std.proofs.raw_atomic.Walks.{proved_at}
use Rattle.std_alloc.proofs.ResultValues.{and_tt}
use Rattle.idlc_c.specs.contracts.held.Held.{the_row}
use Rattle.idlc_c.proofs.Values.{Z, LZ, Table, Held, both, three, loose_good, loose_in, held_good, held_out, owned_cases}
use Rattle.idlc_c.specs.contracts.handle.Handle.into_loose as f
use Rattle.idlc_c.proofs.handle.Handle.into_loose.Statement.{statement}
use Rattle.idlc_c.proofs.handle.Handle.into_loose.Code as code

abbrev stayed : Stays f.ended.signature.params f.ended.kept
stayed = (stay_dropped _ yes, tt)

pub into_loose_spec : {M : Type 1} → statement M
into_loose_spec 𝓤 𝓛 𝓜 𝓡 wired =
    let H = 𝓛.H in let 𝓣 = tables 𝓤 H 𝓜 𝓡 𝓡.env in let c = f.clauses 𝓛 𝓜.mem 𝓡.returns in let fn = code.function in
    proved_at 𝓛 f.ended stayed c 𝓜 𝓡 (Goes-dropped 𝓛 0 (plain (λ _. Held)) yes (λ κs x w. refl), tt) f.Key.name fn
    (code.unfolded 𝓤 H 𝓜 𝓡 wired) (λ z are.
    let d = z.0.3.0 in let Post : Val → SProp 𝓤 = (walk_of 𝓛 f.ended stayed c).post z in let Run : List Val → SProp 𝓤 =
    λ ws. WpFn 𝓤 H 𝓣.C 𝓣.Λ fn ws Post in
    let runs : (w : Val) → z.0.4.0 ≡ w ∷ [] → ent 𝓤 (Run (w ∷ [])) (Run (z.0.4.0 ++ [])) =
    λ w e. subst (λ (us : List Val). ent 𝓤 (Run (w ∷ [])) (Run us)) (sym (λ i. e i ++ [])) (id⊢ 𝓤 (Run (w ∷ []))) in
    qed 𝓛 ((‵ ftrue ⊛ ‵ (fsep (Held.own_val d z.0.4.0) ftrue)) ∷ raw ((c z.0.0 z.0.3).requires z.1) ∷ []) ∵ split ! $
    drop ! $ fsplit ! $ move ! (1 ∷ 2 ∷ []) $ drop ! $ drop ! $
    held_out ! d z.0.4.0 (λ h ws fits. let Out : RattleType = option.the_row Table in
    owned_cases ! d.alloc d.at d.loaded d.table d.names
    (λ off none bare. let w : Val = three d.at false h in
    drop ! $ suffices ! (Run (w ∷ [])) (runs w (ws ∙ ap (λ (l : Bool). three d.at l h ∷ []) off)) $
    enter ! 𝓣.C 𝓣.Λ fn (w ∷ []) Post $ alloc_all ! (λ l. pass_all ! refl (held_good d.at false h fits, tt) $ let Ev =
    env fn.locals l in
    sets ! (of_opd ! (get_in ! (fld ! refl (stop !)) (sub ! 0 refl (whole !)))) refl (Ptr-Good d.at) $ sets !
    (of_opd ! (get_in ! (fld ! refl (stop !)) (sub ! 1 refl (whole !)))) refl (tt, tt) $
    sets ! (of_opd ! (get_in ! (fld ! refl (stop !)) (sub ! 2 refl (whole !)))) refl fits $ sets !
    (of_opd ! (get ! refl)) refl (tt, tt) $
    first ! $ branches ! (get ! refl) (λ wrong. absurd wrong) (λ _.
    sets_last ! (agg ! (and_then ! (lit ! tt) (no_more !))) refl (tt, (record { fits = lit< tt }, tt)) $ exec ! 𝓣.C 𝓣.Λ
    Ev (after 5 fn.body) (at_ret Ev Post) $
    sets ! (of_opd ! (get ! refl)) refl (tt, (record { fits = lit< tt }, tt)) $
    use0 𝓛 (‵ (Out.own_val None (live 0 vnil ∷ []))) (none_of 𝓛 Table) $ returns ! (look_at ! 0 refl) $ free_all ! refl
    $
    suffices ! _ (ends_at 𝓛 f.ended stayed c z (live 0 vnil) None (tt, tt) (tt, tt)) $ says ! (none, bare) $ nothing ! $
    nothing ! $ fjoin ! $ join ! $ nothing ! $ join ! $ done !)))
    (λ b o x at on some named. let w : Val = three (block_ptr b o) true h in let made : Val = both (vptr b o) h in
    let typed = loose_good the_row Z LZ ghosts b o h fits in
    let v : Val = live 1 (vcons made vnil) in let good : Good (layout Out) v =
    (and_tt _ typed.0, (record { fits = lit< tt }, (typed.1, tt))) in let t : Table.Denot =
    record { at = block_ptr b o; alloc = d.alloc; value = x } in
    suffices ! (Run (w ∷ [])) (runs w (ws ∙ (λ i. three (at i) (on i) h ∷ []))) $
    enter ! 𝓣.C 𝓣.Λ fn (w ∷ []) Post $ alloc_all !
    (λ l. pass_all ! refl (held_good (block_ptr b o) true h fits, tt) $ let Ev = env fn.locals l in
    sets ! (of_opd ! (get_in ! (fld ! refl (stop !)) (sub ! 0 refl (whole !)))) refl (tt, tt) $ sets !
    (of_opd ! (get_in ! (fld ! refl (stop !)) (sub ! 1 refl (whole !)))) refl (tt, tt) $
    sets ! (of_opd ! (get_in ! (fld ! refl (stop !)) (sub ! 2 refl (whole !)))) refl fits $ sets !
    (of_opd ! (get ! refl)) refl (tt, tt) $
    first ! $ branches ! (get ! refl) (λ _.
    sets ! (of_opd ! (get ! refl)) refl (tt, tt) $ sets !
    (agg ! (and_then ! (get ! refl) (and_then ! (get ! refl) (no_more !)))) refl typed $
    sets_last ! (agg ! (and_then ! (lit ! tt) (and_then ! (get ! refl) (no_more !)))) refl good $ exec ! 𝓣.C 𝓣.Λ Ev
    (after 5 fn.body) (at_ret Ev Post) $
    sets ! (of_opd ! (get ! refl)) refl good $ loose_in the_row Z LZ ghosts ! b o h d.alloc x $
    use1 𝓛 (‵ (Out.own_val (Some t) (v ∷ []))) (Some-of 𝓛 Table t made) $ returns ! (look_at ! 0 refl) $ free_all ! refl
    $
    suffices ! _ (ends_at 𝓛 f.ended stayed c z v (Some t) (tt, tt) (tt, tt)) $ says ! (some, named) $ nothing ! $
    nothing ! $ fjoin ! $ join ! $ nothing ! $ join ! $ done !) (λ wrong. absurd wrong)))))
