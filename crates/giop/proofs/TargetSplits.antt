-- What the readers of targets split off.
use Rattle.std.proofs.Common.{◌≡◌, ℕ, ◌^◌, ◌<◌, pos, List, ◌++◌, length, Option, Some, None, Result, Ok, Err, IfOk, IfErr, slice_get, get_or, option_map, ◌≤◌, refl, sym, ap, ◌∙◌, subst}
use Rattle.std.proofs.lemmas.Option.{slice_get-map, slice_get_read, slice_get_past}
use Rattle.type_graph.specs.declared.width.Width.TheVariants.{Two, Four}
use Rattle.type_graph.specs.declared.width.Order.TheVariants.{Big}
use Rattle.type_graph.specs.Words.{word}
use Rattle.type_graph.specs.Value.{Tree}
use Rattle.giop_types.specs.declared.tapes.fault.TapeFault.{TapeFault}
use Rattle.giop_types.specs.declared.tapes.fault.TapeFault.TheVariants.{NotATape, TooLong, NoMemory}
use Rattle.giop_types.specs.declared.tapes.reading.Tagged.{Tagged}
use Rattle.giop_types.specs.TapeParts.{counted, IsCounted, tagged, IsTagged, tagged_list, AreTagged, pair_of, pairs_of}
use Rattle.giop_types.specs.TapeRefusal.{RefusesReading}
use Rattle.giop_types.proofs.PartLaws.{word_front, counted_front, tagged_front, tagged_list_front}
use Rattle.giop_messages.specs.Headers.{IsKeyOf, reference_target}
use Rattle.giop.specs.inner.Tapes.{Begins, BeginsBehind, IsAt, IsIn}
use Rattle.giop.proofs.Targets.{key_part, profile_part, ReferencePart, reference_part, has_label}
use Rattle.giop.proofs.Told.{key_told, profile_told, reference_told}

-- a refusal for one reason is one for another that follows
pub reads_or : (fault : TapeFault) (P Q : Type 0) → (P → Q) → RefusesReading fault P → RefusesReading fault Q
reads_or NoMemory P Q f h = tt
reads_or NotATape P Q f h = f h
reads_or TooLong P Q f h = h

-- ---- by the key

pub key_found : (target : Tree) (tape rest key more : List ℕ) → BeginsBehind 0 target tape rest → IsCounted key
    → tape ≡ counted key ++ more → IsKeyOf target (Some key) × (rest ≡ more)
key_found target tape rest key more b short e =
    let k = key_part target b.whole tape rest b.begins b.is in
    let same = counted_front k.key key rest more k.front.short short (sym k.front.front ∙ e) in
    (subst (λ (l : List ℕ). IsKeyOf target (Some l)) same.0 (key_told target k.key k.is), same.1)

pub no_key : (target : Tree) (tape rest : List ℕ) → BeginsBehind 0 target tape rest
    → ((octets more : List ℕ) → IsCounted octets → tape ≡ counted octets ++ more → ⊥) → ⊥
no_key target tape rest b none =
    let k = key_part target b.whole tape rest b.begins b.is in
    none k.key rest k.front.short k.front.front

-- ---- by a profile

pub profile_found : (target : Tree) (tape rest : List ℕ) (profile : ℕ × List ℕ) (more : List ℕ)
    → BeginsBehind 1 target tape rest → IsTagged profile → tape ≡ tagged profile ++ more
    → ((key : Option (List ℕ)) → IsIn profile key → IsKeyOf target key) × (rest ≡ more)
profile_found target tape rest profile more b short e =
    let p = profile_part target b.whole tape rest b.begins b.is in
    let same = tagged_front p.profile profile rest more p.front.short short (sym p.front.front ∙ e) in (
      λ key is. profile_told target p.profile key p.is (subst (λ (r : ℕ × List ℕ). IsIn r key) (sym same.0) is),
      same.1,
    )

pub no_profile : (target : Tree) (tape rest : List ℕ) → BeginsBehind 1 target tape rest
    → ((one : ℕ × List ℕ) (more : List ℕ) → IsTagged one → tape ≡ tagged one ++ more → ⊥) → ⊥
no_profile target tape rest b none =
    let p = profile_part target b.whole tape rest b.begins b.is in
    none p.profile rest p.front.short p.front.front

-- ---- by a profile of an object reference

part : (target : Tree) (tape rest : List ℕ) → BeginsBehind 2 target tape rest → ReferencePart target tape rest
part target tape rest b = reference_part target b.whole tape rest b.begins b.is

-- behind the place
record Placed (target : Tree) (n : ℕ) (tape rest : List ℕ) : Type 0 where
  type_id : List ℕ
  profiles : List (ℕ × List ℕ)
  is : target ≡ reference_target n type_id profiles
  short : IsCounted type_id
  are : AreTagged profiles
  front : tape ≡ counted type_id ++ (tagged_list profiles ++ rest)

placed : (target : Tree) (tape rest : List ℕ) (n : ℕ) (behind : List ℕ) → BeginsBehind 2 target tape rest → n < 2 ^ 32
    → tape ≡ word Big Four (pos n) ++ behind → Placed target n behind rest
placed target tape rest n behind b small e =
    let p = part target tape rest b in
    let same = word_front p.selected n (counted p.type_id ++ (tagged_list p.profiles ++ rest)) behind p.front.small
    small
    (sym p.front.front ∙ e) in
    record {
      type_id = p.type_id;
      profiles = p.profiles;
      is = p.is ∙ ap (λ (m : ℕ). reference_target m p.type_id p.profiles) same.0;
      short = p.front.short;
      are = p.front.are;
      front = sym same.1;
    }

-- behind the type id
record Listed (target : Tree) (n : ℕ) (tape rest : List ℕ) : Type 0 where
  type_id : List ℕ
  profiles : List (ℕ × List ℕ)
  is : target ≡ reference_target n type_id profiles
  are : AreTagged profiles
  front : tape ≡ tagged_list profiles ++ rest

listed : (target : Tree) (tape rest : List ℕ) (n : ℕ) (behind type_id list : List ℕ) → BeginsBehind 2 target tape rest
    → n < 2 ^ 32 → tape ≡ word Big Four (pos n) ++ behind → IsCounted type_id → behind ≡ counted type_id ++ list
    → Listed target n list rest
listed target tape rest n behind type_id list b small e short f =
    let p = placed target tape rest n behind b small e in
    let same = counted_front p.type_id type_id (tagged_list p.profiles ++ rest) list p.short short (sym p.front ∙ f) in
    record { type_id = p.type_id; profiles = p.profiles; is = p.is; are = p.are; front = sym same.1 }

pub no_list : (target : Tree) (tape rest : List ℕ) (n : ℕ) (behind type_id list : List ℕ)
    → BeginsBehind 2 target tape rest → n < 2 ^ 32 → tape ≡ word Big Four (pos n) ++ behind → IsCounted type_id
    → behind ≡ counted type_id ++ list
    → ((all : List (ℕ × List ℕ)) (more : List ℕ) → AreTagged all → list ≡ tagged_list all ++ more → ⊥) → ⊥
no_list target tape rest n behind type_id list b small e short f none =
    let l = listed target tape rest n behind type_id list b small e short f in
    none l.profiles rest l.are l.front

pub selected_found : (target : Tree) (tape rest : List ℕ) (n : ℕ) (behind type_id list : List ℕ)
    (profiles : List (ℕ × List ℕ)) (more : List ℕ) (place : Option (ℕ × List ℕ)) → BeginsBehind 2 target tape rest
    → n < 2 ^ 32 → tape ≡ word Big Four (pos n) ++ behind → IsCounted type_id → behind ≡ counted type_id ++ list
    → AreTagged profiles → list ≡ tagged_list profiles ++ more → slice_get profiles n ≡ place
    → ((key : Option (List ℕ)) → IsAt place key → IsKeyOf target key) × (rest ≡ more)
selected_found target tape rest n behind type_id list profiles more place b small e short f are g at =
    let l = listed target tape rest n behind type_id list b small e short f in
    let same = tagged_list_front l.profiles profiles rest more l.are are (sym l.front ∙ g) in
    let there : slice_get l.profiles n ≡ place = ap (λ (ps : List (ℕ × List ℕ)). slice_get ps n) same.0 ∙ at in (
      λ key is. reference_told target n l.type_id l.profiles key l.is
          (subst (λ (o : Option (ℕ × List ℕ)). IsAt o key) (sym there) is),
      same.1,
    )

-- ---- behind the discriminator

pub none_there : (target : Tree) (tape rest : List ℕ) → Begins 16 target tape rest
    → ((n : ℕ) (more : List ℕ) → tape ≡ word Big Two (pos n) ++ more → ⊥) → ⊥
none_there target tape rest b none =
    let l = has_label tape (record { value = target; rest = rest; begins = b }) in
    none l.n l.rest l.front

pub labelled_found : {X : Type 0} (Q : X → Tree → List ℕ → Type 0) (n : ℕ) (tape behind : List ℕ)
    (r : Result X TapeFault)
    → tape ≡ word Big Two (pos n) ++ behind
    → IfOk r (λ x. (target : Tree) (rest : List ℕ) → BeginsBehind n target behind rest → Q x target rest)
    → IfOk r (λ x. (target : Tree) (rest : List ℕ) → Begins 16 target tape rest → Q x target rest)
labelled_found Q n tape behind (Ok x) e h =
    λ target rest b. h target rest (record { whole = tape; begins = b; is = e })
labelled_found Q n tape behind (Err fault) e h = h

pub labelled_refused : {X : Type 0} (n : ℕ) (tape behind : List ℕ) (r : Result X TapeFault)
    → tape ≡ word Big Two (pos n) ++ behind
    → IfErr r (λ fault. RefusesReading fault ((target : Tree) (rest : List ℕ) → BeginsBehind n target behind rest → ⊥))
    → IfErr r (λ fault. RefusesReading fault ((target : Tree) (rest : List ℕ) → Begins 16 target tape rest → ⊥))
labelled_refused n tape behind (Ok x) e h = h
labelled_refused n tape behind (Err fault) e h =
    reads_or fault ((target : Tree) (rest : List ℕ) → BeginsBehind n target behind rest → ⊥)
    ((target : Tree) (rest : List ℕ) → Begins 16 target tape rest → ⊥)
    (λ none target rest b. none target rest (record { whole = tape; begins = b; is = e })) h

-- ---- a place in a list

abbrev PairPlace : List Tagged → ℕ → Option (ℕ × List ℕ) → Type 0
PairPlace all n place = slice_get (pairs_of all) n ≡ place

pub pair_there : (all lent : List Tagged) (n : ℕ) (one : Tagged) → lent ≡ all → n < length lent
    → one ≡ get_or lent n one → PairPlace all n (Some (pair_of one))
pair_there all lent n one e within is =
    slice_get-map pair_of all n
    ∙ ap (option_map pair_of) (ap (λ (l : List Tagged). slice_get l n) (sym e)
    ∙ slice_get_read lent (length lent) n one refl within is)

pub pair_past : (all lent : List Tagged) (n : ℕ) → lent ≡ all → length lent ≤ n → PairPlace all n None
pair_past all lent n e past =
    slice_get-map pair_of all n
    ∙ ap (option_map pair_of) (ap (λ (l : List Tagged). slice_get l n) (sym e) ∙ slice_get_past lent n past)
