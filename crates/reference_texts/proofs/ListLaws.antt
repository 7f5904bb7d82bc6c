-- Lists of tags with their octets, gone through one by one.
use Rattle.std.proofs.Common.{◌≡◌, ℕ, zero, suc, ◌+◌, ◌<◌, List, [], ◌∷◌, ◌++◌, length, take, get_or, sym, ap, ap₂, ◌∙◌, subst, append_assoc, append-nil, arith}
use Rattle.std.specs.List.{AllByRecursion}
use Rattle.std.specs.declared.vec.Vec.{Vec}
use Rattle.std.specs.declared.alloc.Global.{Global}
use Rattle.std.proofs.lemmas.List.{map-append, take_more}
use Rattle.type_graph.specs.Words.{AllBelow}
use Rattle.type_graph.proofs.WordLaws.{all_append}
use Rattle.giop_types.specs.declared.tapes.fault.TapeFault.{TapeFault}
use Rattle.giop_types.specs.declared.tapes.fault.TapeFault.TheVariants.{NotATape, TooLong, NoMemory}
use Rattle.giop_types.specs.TapeRefusal.{RefusesReading, RefusesWriting}
use Rattle.giop_types.specs.TapeParts.{counted, IsCounted, IsTagged, tagged, tagged_each, tagged_list, AreTagged}
use Rattle.giop_types.proofs.PartLaws.{counted_front, tagged_each-append}
use Rattle.reference_texts.specs.References.{Reference, IsFront, owned_pairs}

-- one more of a list
taken_next : {A : Type 0} (xs : List A) (i : ℕ) (one : A) → i < length xs → one ≡ get_or xs i one
    → take (i + 1) xs ≡ take i xs ++ one ∷ []
taken_next {A} xs i one within is = take_more xs i one within ∙ ap (λ (y : A). take i xs ++ y ∷ []) (sym is)

-- ---- a tape of owned ones

pub owned_next : (xs : List (ℕ × Vec ℕ Global)) (i : ℕ) (one : ℕ × Vec ℕ Global) → i < length xs → one ≡ get_or xs i one
    → owned_pairs (take (i + 1) xs) ≡ owned_pairs (take i xs) ++ (one.0, one.1.items) ∷ []
owned_next xs i one within is =
    ap owned_pairs (taken_next xs i one within is)
    ∙ map-append (λ (o : ℕ × Vec ℕ Global). (o.0, o.1.items)) (take i xs) (one ∷ [])

pub tape_more : (old now new : List ℕ) (xs : List (ℕ × Vec ℕ Global)) (i : ℕ) (one : ℕ × Vec ℕ Global)
    → i < length xs → one ≡ get_or xs i one → now ≡ old ++ tagged_each (owned_pairs (take i xs))
    → new ≡ now ++ tagged (one.0, one.1.items) → new ≡ old ++ tagged_each (owned_pairs (take (i + 1) xs))
tape_more old now new xs i one within is before added =
    let pair : ℕ × List ℕ = (one.0, one.1.items) in
    added ∙ ap (λ l. l ++ tagged pair) before ∙ append_assoc old (tagged_each (owned_pairs (take i xs))) (tagged pair)
    ∙ ap (λ l. old ++ (tagged_each (owned_pairs (take i xs)) ++ l)) (sym (append-nil (tagged pair)))
    ∙ ap (λ l. old ++ l) (sym (tagged_each-append (owned_pairs (take i xs)) (pair ∷ [])))
    ∙ ap (λ l. old ++ tagged_each l) (sym (owned_next xs i one within is))

pub each_more : (holds : ℕ × List ℕ → Type 0) (xs : List (ℕ × Vec ℕ Global)) (i : ℕ) (one : ℕ × Vec ℕ Global)
    → i < length xs → one ≡ get_or xs i one
    → AllByRecursion holds (owned_pairs (take i xs)) → holds (one.0, one.1.items)
    → AllByRecursion holds (owned_pairs (take (i + 1) xs))
each_more holds xs i one within is before fits =
    subst (AllByRecursion holds) (sym (owned_next xs i one within is))
    (all_append holds (owned_pairs (take i xs)) ((one.0, one.1.items) ∷ []) before (fits, tt))

-- what all are, each is
pub each_at : (xs : List (ℕ × Vec ℕ Global)) (i : ℕ) (one : ℕ × Vec ℕ Global) → i < length xs → one ≡ get_or xs i one
    → AllByRecursion IsTagged (owned_pairs xs) → IsTagged (one.0, one.1.items)
each_at [] i one within is all = absurd (omega (arith, within))
each_at (x ∷ xs) zero one within is all = subst (λ (o : ℕ × Vec ℕ Global). IsTagged (o.0, o.1.items)) (sym is) all.0
each_at (x ∷ xs) (suc i) one within is all = each_at xs i one (omega (arith, within)) is all.1

pub octets_below : (octets : List ℕ) → ((i : ℕ) → get_or octets i 0 < 256) → AllBelow 256 octets
octets_below [] h = tt
octets_below (octet ∷ more) h = (h 0, octets_below more (λ i. h (suc i)))

pub writing_weaker : (fault : TapeFault) (P Q : Type 0) → (P → Q) → RefusesWriting fault P → RefusesWriting fault Q
writing_weaker NoMemory P Q f h = tt
writing_weaker TooLong P Q f h = f h
writing_weaker NotATape P Q f h = absurd h

pub reading_weaker : (fault : TapeFault) (P Q : Type 0) → (P → Q) → RefusesReading fault P → RefusesReading fault Q
reading_weaker NoMemory P Q f h = tt
reading_weaker NotATape P Q f h = f h
reading_weaker TooLong P Q f h = absurd h

-- ---- a reference at the front of a tape

pub front_found : (tape behind rest type_id id : List ℕ) (all owned : List (ℕ × List ℕ)) → IsCounted type_id
    → tape ≡ counted type_id ++ behind → AreTagged all → behind ≡ tagged_list all ++ rest → id ≡ type_id → owned ≡ all
    → IsFront tape (record { type_id = id; profiles = owned }) rest
front_found tape behind rest type_id id all owned short e each f same pairs =
    let reference : Reference = record { type_id = id; profiles = owned } in
    record {
      fits = record { type_id = subst IsCounted (sym same) short; profiles = subst AreTagged (sym pairs) each };
      front = e ∙ ap (λ l. counted type_id ++ l) f ∙ sym (append_assoc (counted type_id) (tagged_list all) rest)
          ∙ ap₂ (λ (i : List ℕ) (ps : List (ℕ × List ℕ)). (counted i ++ tagged_list ps) ++ rest) (sym same) (sym pairs);
    }

-- what stands behind the id
pub front_behind : (tape behind rest type_id : List ℕ) (reference : Reference) → IsCounted type_id
    → tape ≡ counted type_id ++ behind → IsFront tape reference rest → behind ≡ tagged_list reference.profiles ++ rest
front_behind tape behind rest type_id reference short e h =
    (counted_front type_id reference.type_id behind (tagged_list reference.profiles ++ rest) short h.fits.type_id
    (sym e ∙ h.front ∙ append_assoc (counted reference.type_id) (tagged_list reference.profiles) rest)).1
