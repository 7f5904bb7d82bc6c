-- What pragmas give to entries, by the lists that keep it.
use Rattle.std.proofs.Common.{◌≡◌, ◌∙◌, ℕ, suc, Bool, true, false, cond, nat_eq, List, [], ◌∷◌, ◌++◌, Option, Some, None, length, position, slice_get, refl, sym, ap, arith}
use Rattle.std.specs.Option.{option_map}
use Rattle.std.proofs.lemmas.Bool.{eqb-true}
use Rattle.scoped_names.specs.declared.repository_ids.PlacedId.{PlacedId}
use Rattle.scoped_names.specs.RepositoryIds.{IdPragma, pragma_for}
use Rattle.scoped_names.specs.inner.IdsKept.{pragma_of, pragmas_of}
use Rattle.name_table.proofs.Stability.{position_cons}

abbrev pub id_at : List PlacedId → Option ℕ → Option PlacedId
id_at gs None = None
id_at gs (Some k) = slice_get gs k

-- what is kept for an entry is given to it
pub given_kept : (es : List ℕ) (gs : List PlacedId) (e : ℕ) → length es ≡ length gs
    → pragma_for (pragmas_of es gs) e ≡ option_map (pragma_of e) (id_at gs (position (nat_eq e) es))
given_kept [] gs e h = refl
given_kept (x ∷ xs) [] e h = absurd (omega arith)
given_kept (x ∷ xs) (g ∷ gs) e h =
    by (nat_eq e x) refl (position (nat_eq e) xs) (given_kept xs gs e (omega arith))
    ∙ sym (ap (λ r. option_map (pragma_of e) (id_at (g ∷ gs) r)) (position_cons (nat_eq e) x xs))
  where
    by : (b : Bool) → nat_eq e x ≡ b → (r : Option ℕ)
        → pragma_for (pragmas_of xs gs) e ≡ option_map (pragma_of e) (id_at gs r)
        → cond b (Some (pragma_of x g)) (pragma_for (pragmas_of xs gs) e)
        ≡ option_map (pragma_of e) (id_at (g ∷ gs) (cond b (Some 0) (option_map suc r)))
    by true is r h = ap (λ y. Some (pragma_of y g)) (sym (eqb-true e x is))
    by false is None h = h
    by false is (Some k) h = h

-- one more
pub pragmas_push : (es : List ℕ) (gs : List PlacedId) (e : ℕ) (g : PlacedId) → length es ≡ length gs
    → pragmas_of (es ++ e ∷ []) (gs ++ g ∷ []) ≡ pragmas_of es gs ++ pragma_of e g ∷ []
pragmas_push [] [] e g h = refl
pragmas_push [] (y ∷ gs) e g h = absurd (omega arith)
pragmas_push (x ∷ es) [] e g h = absurd (omega arith)
pragmas_push (x ∷ es) (y ∷ gs) e g h = ap (λ ps. pragma_of x y ∷ ps) (pragmas_push es gs e g (omega arith))

module _ (ps : List IdPragma) (es : List ℕ) (gs : List PlacedId) (is : pragmas_of es gs ≡ ps)
    (even : length es ≡ length gs) (e : ℕ) where
  pub given_there : (n : ℕ) (x : PlacedId) → position (nat_eq e) es ≡ Some n → slice_get gs n ≡ Some x
      → pragma_for ps e ≡ Some (pragma_of e x)
  given_there n x at here =
      sym (ap (λ qs. pragma_for qs e) is) ∙ given_kept es gs e even ∙ ap (λ o. option_map (pragma_of e) (id_at gs o)) at
      ∙ ap (option_map (pragma_of e)) here

  pub given_none : position (nat_eq e) es ≡ None → pragma_for ps e ≡ None
  given_none at = sym (ap (λ qs. pragma_for qs e) is) ∙ given_kept es gs e even
      ∙ ap (λ o. option_map (pragma_of e) (id_at gs o)) at
