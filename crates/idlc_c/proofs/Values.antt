-- The machine values of a `Loose` and of a `Handle`. Assumes `Logic`.
use Rattle.std.proofs.Common.{◌≡◌, ℕ, List, [], ◌∷◌, ◌++◌, refl, subst, lit<}
use mathlib.Core.Bool.{Bool, true, false, ◌&&◌}
use lib.Dec.{T}
use seplogic.Ra.Ura.{Ura}
use mir.Syntax.{impl, tnil, dnil}
use mir.Raw.{raw as bare}
use mir.Val.{Val, vptr, vbool, vstruct, vcons, vnil, of_list, has_ty, WT}
use base.Logic.{never, never_e, fst∗}
use base.Fml.{ftrue}
use types.Logic.{Logic, sem}
use types.Kit.{Item, Goal, Seq, Step, step, ‵, given, ◌$◌, use1, learn, move, drop, fsplit, fjoin, fpick, fpack, feq_i, feq_l}
use denote.RattleType.{RattleType, Valss}
use denote.Builtin.{RawPtr}
use denote.Memory.{lone}
use denote.RawPtr.{Ptr, block_ptr, null_ptr, ptr_val, in_a_block}
use denote.Steps.{nothing}
use denote.Param.{layout}
use denote.Param.Laws.{Laws}
use denote.Struct.Struct.{within}
use denote.Struct.Owning.{shape, fields, to}
use Rattle.core.specs.declared.alloc.Allocator.{Ghosts}
use Rattle.core.proofs.alloc.Calls.{Al, handle_tells}
use Rattle.core.proofs.cell.Inside.{Good}
use Rattle.std.specs.declared.alloc.Global.{Global}
use Rattle.std.specs.declared.option.Option.{Option}
use Rattle.std.specs.declared.option.Option.TheVariants.{None, Some}
use Rattle.std.specs.contracts.alloc.Global as heap
use Rattle.std.proofs.alloc.Global.TheLaws as heap_laws
use Rattle.std.specs.contracts.impls.GlobalAllocator.TheImpl.{ghosts}
use Rattle.std_alloc.specs.Box.Ownership.{box_owns}
use Rattle.std_alloc.proofs.ResultValues.{and_tt}
use Rattle.table_file.specs.Table.{TableParts}
use Rattle.idlc_c.specs.contracts.held.Held.{the_row}
use Rattle.idlc_c.specs.declared.held.Loaded.{Loaded as Kept}
use Rattle.idlc_c.specs.Handle.{Labels, owns_table}
use Rattle.idlc_c.specs.contracts.loose.Loose as loose
use Rattle.idlc_c.specs.contracts.handle.Handle as handle

abbrev pub both : Val → Val → Val
both v w = vstruct (vcons v (vcons w vnil))

module _ (R Z : RattleType) (L : Laws Z) (g : Ghosts Z.Denot) where
  abbrev pub Loose : RattleType
  Loose = loose.the_row R Z g

  abbrev pub al : Al
  al = record { row = Z; laws = L; g = g; d = impl [] tnil dnil; drops = impl [] tnil dnil }

  pub loose_good : (b o : ℕ) (h : Val) → Good (layout Z) h → T (has_ty (layout Z) h && true) × WT (both (vptr b o) h)
  loose_good b o h fits = (and_tt (has_ty (layout Z) h) fits.0, (tt, (fits.1, tt)))

  module _ {M : Type 1} {𝓤 : Ura M} {𝓛 : Logic 𝓤} {K : Type 0} {Γ : List (Item 𝓤)} {G : Goal 𝓤 𝓛.H} where
    pub loose_out : K → (d : Loose.Denot) (vs : List Val)
        → ((b o : ℕ) (h : Val) → d.at ≡ block_ptr b o → vs ≡ both (vptr b o) h ∷ [] → Good (layout Z) h
        → Seq K 𝓛 (‵ (box_owns (g.dealloc_token d.alloc) R (block_ptr b o) d.value) ∷ ‵ (Z.own_val d.alloc (h ∷ []))
        ∷ Γ) G)
        → Seq K 𝓛 (‵ (Loose.own_val d vs) ∷ Γ) G
    loose_out t d vs k =
        fsplit t $ fpick t (λ vss. fsplit t $ feq_l t
        (λ ev. fsplit t $ feq_l t
        (λ ep. fsplit t $ handle_tells al t d.alloc vss.1.0
        (λ h ea fits. move t (1 ∷ []) $ drop t $ move t (1 ∷ []) $
        in_a_block t d.at (λ p. box_owns (g.dealloc_token d.alloc) R p d.value)
        (fst∗ 𝓤 (never 𝓤) (sem 𝓛 (g.dealloc_token d.alloc (bare (lone R.mir)) null_ptr))) (λ b o e. k b o h e
        (subst (λ (p : Ptr). vs ≡ vstruct (of_list (ptr_val p ∷ h ∷ [])) ∷ []) e
        (subst (λ (ws : List Val). vs ≡ vstruct (of_list (ptr_val d.at ∷ (ws ++ []))) ∷ []) ea
        (subst (λ (ps : List Val). vs ≡ vstruct (of_list (ps ++ (vss.1.0 ++ []))) ∷ []) ep ev))) fits)))))

    pub loose_in : K → (b o : ℕ) (h : Val) (a : Z.Denot) (x : R.Denot)
        → Step K 𝓛 (‵ (Loose.own_val (record { at = block_ptr b o; alloc = a; value = x }) (both (vptr b o) h ∷ []))
        ∷ Γ) G (‵ (box_owns (g.dealloc_token a) R (block_ptr b o) x) ∷ ‵ (Z.own_val a (h ∷ [])) ∷ Γ) G
    loose_in t b o h a x = step (λ s. let v : Val = both (vptr b o) h in
        nothing t $ move t (2 ∷ 0 ∷ []) $ fjoin t $ feq_i t (List Val) (vptr b o ∷ []) (vptr b o ∷ []) refl $ fjoin t $
        feq_i t (List Val) (v ∷ []) (v ∷ []) refl $ fjoin t $
        fpack t (Valss (RawPtr ∷ Z ∷ [])) (within (shape (loose.the_type R Z g)) (block_ptr b o, (a, tt)) (v ∷ []))
        (vptr b o ∷ [], (h ∷ [], tt)) $ fjoin t $ s)

-- ---- the handle
abbrev pub Z : RattleType
Z = heap.the_row

abbrev pub LZ : Laws Z
LZ = heap_laws.the_row_laws

abbrev pub Table : RattleType
Table = Loose the_row Z LZ ghosts

abbrev pub Held : RattleType
Held = handle.the_row

abbrev pub held : Ptr → Bool → Global → Option TableParts → Labels → Held.Denot
held at loaded alloc table names = record { at = at; loaded = loaded; alloc = alloc; table = table; names = names }

abbrev pub three : Ptr → Bool → Val → Val
three p loaded h = vstruct (vcons (ptr_val p) (vcons (vbool loaded) (vcons h vnil)))

pub held_good : (p : Ptr) (loaded : Bool) (h : Val) → Good (layout Z) h → T (has_ty (layout Held) (three p loaded h))
    × WT (three p loaded h)
held_good (block_ptr b o) loaded h fits = (and_tt (has_ty (layout Z) h) fits.0, (tt, (tt, (fits.1, tt))))
held_good null_ptr loaded h fits =
    (and_tt (has_ty (layout Z) h) fits.0, (record { fits = lit< tt }, (tt, (fits.1, tt))))

module _ {M : Type 1} {𝓤 : Ura M} {𝓛 : Logic 𝓤} {K : Type 0} {Γ : List (Item 𝓤)} {G : Goal 𝓤 𝓛.H} where
  pub held_out : K → (d : Held.Denot) (vs : List Val)
      → ((h : Val) → vs ≡ three d.at d.loaded h ∷ [] → Good (layout Z) h
      → Seq K 𝓛 (‵ (owns_table d.alloc d.at d.loaded d.table d.names) ∷ ‵ (Z.own_val d.alloc (h ∷ [])) ∷ Γ) G)
      → Seq K 𝓛 (‵ (Held.own_val d vs) ∷ Γ) G
  held_out t d vs k =
      fsplit t $ fpick t (λ vss. fsplit t $ feq_l t
      (λ ev. fsplit t $ feq_l t
      (λ ep. fsplit t $ feq_l t
      (λ el. fsplit t $ handle_tells (al the_row Z LZ ghosts) t d.alloc vss.1.1.0
      (λ h ea fits. move t (1 ∷ []) $ drop t $ move t (1 ∷ []) $
      k h (subst (λ (ws : List Val). vs ≡ vstruct (of_list (ptr_val d.at ∷ vbool d.loaded ∷ (ws ++ []))) ∷ []) ea
      (subst (λ (bs : List Val). vs ≡ vstruct (of_list (ptr_val d.at ∷ (bs ++ (vss.1.1.0 ++ [])))) ∷ []) el
      (subst (λ (ps : List Val). vs ≡ vstruct (of_list (ps ++ (vss.1.0 ++ (vss.1.1.0 ++ [])))) ∷ []) ep ev))) fits)))))

  pub held_in : K → (d : Held.Denot) (h : Val)
      → Step K 𝓛 (‵ (Held.own_val d (three d.at d.loaded h ∷ [])) ∷ Γ) G
      (‵ (owns_table d.alloc d.at d.loaded d.table d.names) ∷ ‵ (Z.own_val d.alloc (h ∷ [])) ∷ Γ) G
  held_in t d h = step (λ s. let v : Val = three d.at d.loaded h in let p : List Val = ptr_val d.at ∷ [] in
      let l : List Val = vbool d.loaded ∷ [] in
      nothing t $ move t (2 ∷ 0 ∷ []) $ fjoin t $ feq_i t (List Val) l l refl $ fjoin t $ feq_i t (List Val) p p refl $
      fjoin t $ feq_i t (List Val) (v ∷ []) (v ∷ []) refl $ fjoin t $
      fpack t (Valss (fields handle.the_type)) (within (shape handle.the_type) (to handle.the_type d) (v ∷ []))
      (p, (l, (h ∷ [], tt))) $ fjoin t $ s)

  -- a handle is loaded just where it has a table
  pub owned_cases : K → (alloc : Global) (at : Ptr) (loaded : Bool) (table : Option TableParts) (names : Labels)
      → (loaded ≡ false → table ≡ None → names ≡ [] → Seq K 𝓛 Γ G)
      → ((b o : ℕ) (x : Kept) → at ≡ block_ptr b o → loaded ≡ true → table ≡ Some x.table → names ≡ x.names
      → Seq K 𝓛 (‵ (box_owns (ghosts.dealloc_token alloc) the_row (block_ptr b o) x) ∷ Γ) G)
      → Seq K 𝓛 (‵ (owns_table alloc at loaded table names) ∷ Γ) G
  owned_cases t alloc at false None [] none some = drop t $ none refl refl refl
  owned_cases t alloc at true (Some table) names none some = let x : Kept = record { table = table; names = names } in
      in_a_block t at (λ p. box_owns (ghosts.dealloc_token alloc) the_row p x)
      (fst∗ 𝓤 (never 𝓤) (sem 𝓛 (ghosts.dealloc_token alloc (bare (lone the_row.mir)) null_ptr)))
      (λ b o e. some b o x e refl refl refl)
  owned_cases t alloc at false None (name ∷ names) none some =
      use1 𝓛 (given ⊥ (‵ ftrue)) (never_e 𝓤 _) $ learn t (λ z. absurd z)
  owned_cases t alloc at false (Some x) names none some =
      use1 𝓛 (given ⊥ (‵ ftrue)) (never_e 𝓤 _) $ learn t (λ z. absurd z)
  owned_cases t alloc at true None names none some = use1 𝓛 (given ⊥ (‵ ftrue)) (never_e 𝓤 _) $ learn t (λ z. absurd z)
