-- What the readers of headers split off.
use Rattle.std.proofs.Common.{◌≡◌, ℕ, zero, suc, ◌^◌, ◌<◌, pos, List, ◌++◌, length, refl, sym, ap, ◌∙◌, subst, arith}
use Rattle.std.specs.Borrow.{Bor}
use Rattle.type_graph.specs.declared.width.Width.TheVariants.{One, Four}
use Rattle.type_graph.specs.declared.width.Order.TheVariants.{Big}
use Rattle.type_graph.specs.Words.{word}
use Rattle.type_graph.specs.Value.{Tree, Trees}
use Rattle.type_graph.proofs.WordLaws.{plain_word_same}
use Rattle.type_graph.proofs.OneTape.{cut_same}
use Rattle.giop_types.specs.TapeParts.{counted, IsCounted}
use Rattle.giop_types.proofs.PartLaws.{word_front, counted_front}
use Rattle.giop_messages.specs.Headers.{request_tree, reply_tree, locate_tree, number_of}
use Rattle.giop_messages.specs.declared.message.ReplyStatus.{ReplyStatus}
use Rattle.giop_messages.specs.declared.message.ReplyStatus.TheVariants.{NoException, UserException, SystemException, LocationForward, LocationForwardPerm, NeedsAddressingMode}
use Rattle.giop.specs.declared.reading.target.Target.{Target}
use Rattle.giop.specs.inner.Tapes.{Begins}
use Rattle.giop.specs.inner.Targets.{TellsTarget, IsRequestHeader, IsReplyHeader, IsLocateHeader}
use Rattle.giop.proofs.HeaderParts.{RequestParts, request_parts, reply_parts, cancel_parts, locate_parts}

pub octet_front : (m n : ℕ) (r s : List ℕ) → m < 2 ^ 8 → n < 2 ^ 8
    → word Big One (pos m) ++ r ≡ word Big One (pos n) ++ s
    → (m ≡ n) × (r ≡ s)
octet_front m n r s hm hn e =
    let cut = cut_same (word Big One (pos m)) (word Big One (pos n)) r s refl e in
    (plain_word_same Big One m n hm hn cut.0, cut.1)

-- ---- a request

-- a tape that a reader of targets was given tells this
abbrev pub Split : Target → List ℕ → List ℕ → Type 0
Split target tape behind = (tree : Tree) (rest : List ℕ) → Begins 16 tree tape rest
    → TellsTarget tree target × (rest ≡ behind)

-- what of it stands behind the number, behind the flags, behind the reserved octets
pub record AtFlags (value : Tree) (id : ℕ) (tape rest : List ℕ) : Type 0 where
  pub whole : List ℕ
  pub parts : RequestParts value whole rest
  pub id_is : parts.id ≡ id
  pub tape_is : tape ≡ word Big One (pos parts.flags) ++ (parts.three ++ parts.address)

pub at_flags : (value : Tree) (tape rest : List ℕ) (id : ℕ) (behind : List ℕ) → Begins 17 value tape rest → id < 2 ^ 32
    → tape ≡ word Big Four (pos id) ++ behind → AtFlags value id behind rest
at_flags value tape rest id behind begins small e =
    let p = request_parts value tape rest begins in
    let same = word_front p.id id (word Big One (pos p.flags) ++ (p.three ++ p.address)) behind p.id_small small
    (sym p.tape_is ∙ e) in
    record { whole = tape; parts = p; id_is = same.0; tape_is = sym same.1 }

pub record AtReserved (value : Tree) (id flags : ℕ) (tape rest : List ℕ) : Type 0 where
  pub whole : List ℕ
  pub parts : RequestParts value whole rest
  pub id_is : parts.id ≡ id
  pub flags_is : parts.flags ≡ flags
  pub tape_is : tape ≡ parts.three ++ parts.address

pub at_reserved : (value : Tree) (id : ℕ) (tape rest : List ℕ) (flags : ℕ) (behind : List ℕ)
    → AtFlags value id tape rest
    → flags < 2 ^ 8 → tape ≡ word Big One (pos flags) ++ behind → AtReserved value id flags behind rest
at_reserved value id tape rest flags behind a small e =
    let p = a.parts in
    let same = octet_front p.flags flags (p.three ++ p.address) behind p.flags_small small (sym a.tape_is ∙ e) in
    record { whole = a.whole; parts = p; id_is = a.id_is; flags_is = same.0; tape_is = sym same.1 }

-- what skipping the reserved octets leaves
abbrev pub Skipped : List ℕ → List ℕ → Type 0
Skipped tape behind = (reserved address : List ℕ) → length reserved ≡ 3 → tape ≡ reserved ++ address → behind ≡ address

pub request_found : (value : Tree) (tape rest : List ℕ) (id : ℕ) (r1 : List ℕ) (flags : ℕ) (r2 r3 : List ℕ)
    (target : Target) (r4 : List ℕ) (operation : Bor (List ℕ)) (r5 : List ℕ) → Begins 17 value tape rest → id < 2 ^ 32
    → tape ≡ word Big Four (pos id) ++ r1 → flags < 2 ^ 8 → r1 ≡ word Big One (pos flags) ++ r2 → Skipped r2 r3
    → Split target r3 r4 → IsCounted operation.now → r4 ≡ counted operation.now ++ r5
    → IsRequestHeader value (record { id = id; flags = flags; target = target; operation = operation })
request_found value tape rest id r1 flags r2 r3 target r4 operation r5 begins small e octet f skipped split short g =
    let a = at_reserved value id r1 rest flags r2 (at_flags value tape rest id r1 begins small e) octet f in
    let p = a.parts in
    let there : r3 ≡ p.address = skipped p.three p.address p.long a.tape_is in
    let told = split p.target (counted p.text ++ p.behind)
    (subst (λ (l : List ℕ). Begins 16 p.target l (counted p.text ++ p.behind)) (sym there) p.target_begins) in
    let text = counted_front p.text operation.now p.behind r5 p.text_short short (told.1 ∙ g) in
    record {
      reserved = p.reserved;
      target = p.target;
      contexts = p.contexts;
      is = p.is ∙ ap (λ n. request_tree n p.flags p.reserved p.target p.text p.contexts) a.id_is
          ∙ ap (λ n. request_tree id n p.reserved p.target p.text p.contexts) a.flags_is
          ∙ ap (λ l. request_tree id flags p.reserved p.target l p.contexts) text.0;
      tells = told.0;
    }

pub no_id : (value : Tree) (tape rest : List ℕ) → Begins 17 value tape rest
    → ((n : ℕ) (more : List ℕ) → tape ≡ word Big Four (pos n) ++ more → ⊥) → ⊥
no_id value tape rest begins none =
    let p = request_parts value tape rest begins in
    none p.id (word Big One (pos p.flags) ++ (p.three ++ p.address)) p.tape_is

pub no_flags : (value : Tree) (tape rest : List ℕ) (id : ℕ) (r1 : List ℕ) → Begins 17 value tape rest → id < 2 ^ 32
    → tape ≡ word Big Four (pos id) ++ r1 → ((n : ℕ) (more : List ℕ) → r1 ≡ word Big One (pos n) ++ more → ⊥) → ⊥
no_flags value tape rest id r1 begins small e none =
    let a = at_flags value tape rest id r1 begins small e in
    none a.parts.flags (a.parts.three ++ a.parts.address) a.tape_is

pub no_reserved : (value : Tree) (tape rest : List ℕ) (id : ℕ) (r1 : List ℕ) (flags : ℕ) (r2 : List ℕ)
    → Begins 17 value tape rest → id < 2 ^ 32 → tape ≡ word Big Four (pos id) ++ r1 → flags < 2 ^ 8
    → r1 ≡ word Big One (pos flags) ++ r2
    → ((reserved address : List ℕ) → length reserved ≡ 3 → r2 ≡ reserved ++ address → ⊥) → ⊥
no_reserved value tape rest id r1 flags r2 begins small e octet f none =
    let a = at_reserved value id r1 rest flags r2 (at_flags value tape rest id r1 begins small e) octet f in
    none a.parts.three a.parts.address a.parts.long a.tape_is

pub no_target : (value : Tree) (tape rest : List ℕ) (id : ℕ) (r1 : List ℕ) (flags : ℕ) (r2 r3 : List ℕ)
    → Begins 17 value tape rest → id < 2 ^ 32 → tape ≡ word Big Four (pos id) ++ r1 → flags < 2 ^ 8
    → r1 ≡ word Big One (pos flags) ++ r2 → Skipped r2 r3
    → ((target : Tree) (rest : List ℕ) → Begins 16 target r3 rest → ⊥) → ⊥
no_target value tape rest id r1 flags r2 r3 begins small e octet f skipped none =
    let a = at_reserved value id r1 rest flags r2 (at_flags value tape rest id r1 begins small e) octet f in
    let p = a.parts in
    let there : r3 ≡ p.address = skipped p.three p.address p.long a.tape_is in
    none p.target (counted p.text ++ p.behind)
    (subst (λ (l : List ℕ). Begins 16 p.target l (counted p.text ++ p.behind)) (sym there) p.target_begins)

pub no_operation : (value : Tree) (tape rest : List ℕ) (id : ℕ) (r1 : List ℕ) (flags : ℕ) (r2 r3 : List ℕ)
    (target : Target) (r4 : List ℕ) → Begins 17 value tape rest → id < 2 ^ 32 → tape ≡ word Big Four (pos id) ++ r1
    → flags < 2 ^ 8 → r1 ≡ word Big One (pos flags) ++ r2 → Skipped r2 r3 → Split target r3 r4
    → ((octets more : List ℕ) → IsCounted octets → r4 ≡ counted octets ++ more → ⊥) → ⊥
no_operation value tape rest id r1 flags r2 r3 target r4 begins small e octet f skipped split none =
    let a = at_reserved value id r1 rest flags r2 (at_flags value tape rest id r1 begins small e) octet f in
    let p = a.parts in
    let there : r3 ≡ p.address = skipped p.three p.address p.long a.tape_is in
    let told = split p.target (counted p.text ++ p.behind)
    (subst (λ (l : List ℕ). Begins 16 p.target l (counted p.text ++ p.behind)) (sym there) p.target_begins) in
    none p.text p.behind p.text_short (sym told.1)

-- ---- a reply

status_at : (n : ℕ) → n < 6 → (status : ReplyStatus) × (number_of status ≡ n)
status_at zero h = (NoException, refl)
status_at (suc zero) h = (UserException, refl)
status_at (suc (suc zero)) h = (SystemException, refl)
status_at (suc (suc (suc zero))) h = (LocationForward, refl)
status_at (suc (suc (suc (suc zero)))) h = (LocationForwardPerm, refl)
status_at (suc (suc (suc (suc (suc zero))))) h = (NeedsAddressingMode, refl)
status_at (suc (suc (suc (suc (suc (suc n)))))) h = absurd (omega (arith, h))

pub record AtStatus (value : Tree) (id : ℕ) (tape : List ℕ) : Type 0 where
  pub status : ℕ
  pub contexts : Trees
  pub is : value ≡ reply_tree id status contexts
  pub small : status < 6
  pub behind : List ℕ
  pub tape_is : tape ≡ word Big Four (pos status) ++ behind

at_status : (value : Tree) (tape rest : List ℕ) (id : ℕ) (behind : List ℕ) → Begins 19 value tape rest → id < 2 ^ 32
    → tape ≡ word Big Four (pos id) ++ behind → AtStatus value id behind
at_status value tape rest id behind begins small e =
    let p = reply_parts value tape rest begins in
    let same = word_front p.id id (word Big Four (pos p.status) ++ p.behind) behind p.id_small small (sym p.tape_is ∙ e)
    in
    record {
      status = p.status;
      contexts = p.contexts;
      is = p.is ∙ ap (λ n. reply_tree n p.status p.contexts) same.0;
      small = p.status_small;
      behind = p.behind;
      tape_is = sym same.1;
    }

status_same : (value : Tree) (id : ℕ) (tape : List ℕ) (a : AtStatus value id tape) (n : ℕ) (more : List ℕ) → n < 2 ^ 32
    → tape ≡ word Big Four (pos n) ++ more → a.status ≡ n
status_same value id tape a n more small e =
    (word_front a.status n a.behind more (omega (arith, a.small)) small (sym a.tape_is ∙ e)).0

pub reply_found : (value : Tree) (tape rest : List ℕ) (id : ℕ) (r1 : List ℕ) (n : ℕ) (r2 : List ℕ)
    (status : ReplyStatus)
    → Begins 19 value tape rest → id < 2 ^ 32 → tape ≡ word Big Four (pos id) ++ r1 → n < 2 ^ 32
    → r1 ≡ word Big Four (pos n) ++ r2 → number_of status ≡ n
    → IsReplyHeader value (record { id = id; status = status })
reply_found value tape rest id r1 n r2 status begins small e below f s =
    let a = at_status value tape rest id r1 begins small e in
    let same = status_same value id r1 a n r2 below f in
    record { contexts = a.contexts; is = a.is ∙ ap (λ m. reply_tree id m a.contexts) (same ∙ sym s) }

pub no_number : (value : Tree) (tape rest : List ℕ) (id : ℕ) (r1 : List ℕ) → Begins 19 value tape rest → id < 2 ^ 32
    → tape ≡ word Big Four (pos id) ++ r1 → ((n : ℕ) (more : List ℕ) → r1 ≡ word Big Four (pos n) ++ more → ⊥) → ⊥
no_number value tape rest id r1 begins small e none =
    let a = at_status value tape rest id r1 begins small e in
    none a.status a.behind a.tape_is

pub no_status : (value : Tree) (tape rest : List ℕ) (id : ℕ) (r1 : List ℕ) (n : ℕ) (r2 : List ℕ)
    → Begins 19 value tape rest → id < 2 ^ 32 → tape ≡ word Big Four (pos id) ++ r1 → n < 2 ^ 32
    → r1 ≡ word Big Four (pos n) ++ r2 → ((status : ReplyStatus) → number_of status ≡ n → ⊥) → ⊥
no_status value tape rest id r1 n r2 begins small e below f none =
    let a = at_status value tape rest id r1 begins small e in
    let s = status_at a.status a.small in
    none s.0 (s.1 ∙ status_same value id r1 a n r2 below f)

-- ---- a cancel request

pub no_cancel : (value : Tree) (tape rest : List ℕ) → Begins 22 value tape rest
    → ((n : ℕ) (more : List ℕ) → tape ≡ word Big Four (pos n) ++ more → ⊥) → ⊥
no_cancel value tape rest begins none =
    let p = cancel_parts value tape rest begins in
    none p.id p.behind p.tape_is

-- ---- a locate request

pub locate_found : (value : Tree) (tape rest : List ℕ) (id : ℕ) (r1 : List ℕ) (target : Target) (r2 : List ℕ)
    → Begins 20 value tape rest → id < 2 ^ 32 → tape ≡ word Big Four (pos id) ++ r1 → Split target r1 r2
    → IsLocateHeader value (record { id = id; target = target })
locate_found value tape rest id r1 target r2 begins small e split =
    let p = locate_parts value tape rest begins in
    let same = word_front p.id id p.address r1 p.id_small small (sym p.tape_is ∙ e) in
    let told = split p.target rest (subst (λ (l : List ℕ). Begins 16 p.target l rest) same.1 p.target_begins) in
    record { target = p.target; is = p.is ∙ ap (λ n. locate_tree n p.target) same.0; tells = told.0 }

pub no_locate : (value : Tree) (tape rest : List ℕ) → Begins 20 value tape rest
    → ((n : ℕ) (more : List ℕ) → tape ≡ word Big Four (pos n) ++ more → ⊥) → ⊥
no_locate value tape rest begins none =
    let p = locate_parts value tape rest begins in
    none p.id p.address p.tape_is
