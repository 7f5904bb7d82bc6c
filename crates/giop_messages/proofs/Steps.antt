-- What a stream says, message by message.
use Rattle.std.proofs.Common.{◌≡◌, ℕ, zero, suc, ◌+◌, ◌≤◌, List, [], ◌∷◌, length, drop, Option, Some, refl, sym, ap, ◌∙◌, subst, arith}
use Rattle.std.proofs.lemmas.List.{drop_all}
use Rattle.giop_messages.specs.declared.fault.FramingFault.{FramingFault}
use Rattle.giop_messages.specs.Fronts.{front}
use Rattle.giop_messages.specs.Heard.{Waits, Replies, Breaks, Ends, Refuses, heard_from}
use Rattle.giop_messages.specs.declared.reply_streams.turn.Turn.{Turn}
use Rattle.giop_messages.specs.declared.reply_streams.turn.Turn.TheVariants as turns
use Rattle.giop_messages.specs.inner.Turns.{IsTurn}
use Rattle.giop_messages.proofs.Hearing.{heard_broken, heard_end, heard_nothing, heard_passed, heard_piece, heard_refusal, heard_reply, heard_waits}

drop_nil : (n : ℕ) → drop {A = ℕ} n [] ≡ []
drop_nil zero = refl
drop_nil (suc n) = refl

dropped : (n m : ℕ) (xs : List ℕ) → drop m (drop n xs) ≡ drop (n + m) xs
dropped zero m xs = let e : m ≡ 0 + m = omega arith in ap (λ (k : ℕ). drop k xs) e
dropped (suc n) m [] = drop_nil m ∙ sym (drop_nil (suc n + m))
dropped (suc n) m (x ∷ xs) =
    let e : suc (n + m) ≡ suc n + m = omega arith in dropped n m xs ∙ ap (λ (k : ℕ). drop k (x ∷ xs)) e

-- the turn that was taken of the octets behind a place
pub turn_here : (id : ℕ) (run : Option (List ℕ)) (octets lent : List ℕ) (told turn : Turn) → lent ≡ octets → told ≡ turn
    → IsTurn run (front id run lent) lent told → IsTurn run (front id run octets) octets turn
turn_here id run octets lent told turn o t h =
    subst (λ (l : List ℕ). IsTurn run (front id run l) l turn) o
    (subst (λ (x : Turn). IsTurn run (front id run lent) lent x) t h)

pub waits : (id : ℕ) (first run kept : Option (List ℕ)) (all : List ℕ) (at : ℕ)
    → heard_from id first all ≡ heard_from id run (drop at all)
    → IsTurn run (front id run (drop at all)) (drop at all) (turns.Waits kept)
    → (rest : List ℕ) (left : Option (List ℕ)) → left ≡ kept → rest ≡ drop at all
    → Waits left rest ≡ heard_from id first all
waits id first run kept all at e t rest left l r =
    ap (λ (o : Option (List ℕ)). Waits o rest) (l ∙ t.keeps) ∙ ap (λ (x : List ℕ). Waits run x) r
    ∙ sym (heard_waits id run (drop at all) t.front_is) ∙ sym e

pub passes : (id : ℕ) (first run kept : Option (List ℕ)) (all : List ℕ) (at len : ℕ)
    → heard_from id first all ≡ heard_from id run (drop at all)
    → IsTurn run (front id run (drop at all)) (drop at all) (turns.Passes kept len)
    → heard_from id first all ≡ heard_from id kept (drop (at + len) all)
passes id first run kept all at len e t =
    e ∙ heard_passed id run (drop at all) (drop len (drop at all)) t.front_is
    ∙ ap (λ (o : Option (List ℕ)). heard_from id o (drop len (drop at all))) (sym t.keeps)
    ∙ ap (heard_from id kept) (dropped at len all)

pub goes : (id : ℕ) (first run : Option (List ℕ)) (all joined : List ℕ) (at len : ℕ)
    → heard_from id first all ≡ heard_from id run (drop at all)
    → IsTurn run (front id run (drop at all)) (drop at all) (turns.Goes joined len)
    → heard_from id first all ≡ heard_from id (Some joined) (drop (at + len) all)
goes id first run all joined at len e t =
    e ∙ heard_piece id run (drop at all) joined (drop len (drop at all)) t.front_is
    ∙ ap (heard_from id (Some joined)) (dropped at len all)

pub replies : (id : ℕ) (first run : Option (List ℕ)) (all reply : List ℕ) (at : ℕ)
    → heard_from id first all ≡ heard_from id run (drop at all)
    → IsTurn run (front id run (drop at all)) (drop at all) (turns.Replies reply)
    → Replies reply ≡ heard_from id first all
replies id first run all reply at e t = sym (heard_reply id run (drop at all) reply t.front_is) ∙ sym e

pub breaks : (id : ℕ) (first run : Option (List ℕ)) (all : List ℕ) (fault : FramingFault) (at : ℕ)
    → heard_from id first all ≡ heard_from id run (drop at all)
    → IsTurn run (front id run (drop at all)) (drop at all) (turns.Breaks fault)
    → Breaks fault ≡ heard_from id first all
breaks id first run all fault at e t = sym (heard_broken id run (drop at all) fault t.front_is) ∙ sym e

pub ends : (id : ℕ) (first run : Option (List ℕ)) (all : List ℕ) (at : ℕ)
    → heard_from id first all ≡ heard_from id run (drop at all)
    → IsTurn run (front id run (drop at all)) (drop at all) turns.Ends
    → Ends ≡ heard_from id first all
ends id first run all at e t = sym (heard_end id run (drop at all) t.front_is) ∙ sym e

pub refuses : (id : ℕ) (first run : Option (List ℕ)) (all : List ℕ) (at : ℕ)
    → heard_from id first all ≡ heard_from id run (drop at all)
    → IsTurn run (front id run (drop at all)) (drop at all) turns.Refuses
    → Refuses ≡ heard_from id first all
refuses id first run all at e t = sym (heard_refusal id run (drop at all) t.front_is) ∙ sym e

-- nothing is left to hear
pub nothing_left : (id : ℕ) (first run : Option (List ℕ)) (all : List ℕ) (at : ℕ)
    → heard_from id first all ≡ heard_from id run (drop at all) → length all ≤ at
    → (rest : List ℕ) (left : Option (List ℕ)) → left ≡ run → rest ≡ drop at all
    → Waits left rest ≡ heard_from id first all
nothing_left id first run all at e past rest left l r =
    let none : drop at all ≡ [] = drop_all at all past in
    ap (λ (o : Option (List ℕ)). Waits o rest) l ∙ ap (λ (x : List ℕ). Waits run x) r
    ∙ sym (heard_nothing id run (drop at all) (subst (λ (l : List ℕ). length l ≤ 0) (sym none) (omega arith)))
    ∙ sym e
