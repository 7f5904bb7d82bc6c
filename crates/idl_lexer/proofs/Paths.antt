-- The lexemes of a source, one behind another: two ways through it are the same.
use Rattle.std.proofs.Common.{◌≡◌, ◌∙◌, ℕ, zero, suc, ◌+◌, ◌-◌, ◌<◌, ◌≤◌, List, [], ◌∷◌, Option, Some, None, length, map, take, drop, slice_range, ap, subst, sym, refl, arith}
use Rattle.std.proofs.lemmas.List.{drop_all}
use Rattle.idl_lexer.specs.declared.token.Kind.{Kind}
use Rattle.idl_lexer.specs.declared.token.Token.{Token}
use Rattle.idl_lexer.specs.Gaps.{IsGap, none, more, Skips}
use Rattle.idl_lexer.specs.Forms.{Begins}
use Rattle.idl_lexer.specs.Lexemes.{HasNoForm, IsForm}
use Rattle.idl_lexer.specs.Tokens.{HaveLines, Lexed, LexedPart, StandsIn, end_of, line_at, parts_of}
use Rattle.idl_lexer.proofs.OneForm.{none_at_end, one_form}

-- from i to stop stand these tokens, with what is skipped between them
pub data Path (source : List ℕ) (stop : ℕ) : ℕ → List Token → Type 0 where
  done : (i : ℕ) → i ≡ stop → Path source stop i []
  skip : (i n : ℕ) (ts : List Token) → Skips (take i source) (drop i source) n → Path source stop (i + n) ts
      → Path source stop i ts
  token : (i : ℕ) (t : Token) (ts : List Token) → t.start ≡ i → StandsIn source t → Path source stop (end_of t) ts
      → Path source stop i (t ∷ ts)

behind_gap : (source : List ℕ) (stop i j : ℕ) (ts : List Token) → IsGap source i j → Path source stop j ts
    → Path source stop i ts
behind_gap source stop i j ts none p = p
behind_gap source stop i j ts (more k n j1 gap skips e) p =
    behind_gap source stop i k ts gap (skip k n ts skips (rw e at p))

pub path : (source : List ℕ) (stop i : ℕ) (ts : List Token) → LexedPart source i ts stop → Path source stop i ts
path source stop i [] gap = behind_gap source stop i stop [] gap (done stop refl)
path source stop i (t ∷ ts) (gap, stands, rest) =
    behind_gap source stop i t.start (t ∷ ts) gap (token t.start t ts refl stands (path source stop (end_of t) ts rest))

rises : (source : List ℕ) (stop i : ℕ) (ts : List Token) → Path source stop i ts → i ≤ stop
rises source stop i ts (done j e) = omega arith
rises source stop i ts (skip j n us skips p) = omega (arith, rises source stop (j + n) us p)
rises source stop i ts (token j t us e stands p) = omega (arith, stands.rises, rises source stop (end_of t) us p)

-- the form of a token, seen from its place
form_at : (source : List ℕ) (i : ℕ) (t : Token) → t.start ≡ i → StandsIn source t
    → Begins t.kind (take i source) (drop i source) (end_of t - t.start)
form_at source i t e stands =
    let P : ℕ → Type 0 = λ k. Begins t.kind (take k source) (drop k source) (end_of t - t.start) in
    subst P e stands.form

same_end : (source : List ℕ) (i : ℕ) (t u : Token) → t.start ≡ i → u.start ≡ i → StandsIn source t → StandsIn source u
    → (t.kind ≡ u.kind) × (end_of t ≡ end_of u)
same_end source i t u e f one other =
    let both = one_form (take i source) (drop i source) (Some t.kind) (Some u.kind) _ _ (form_at source i t e one)
    (form_at source i u f other) in
    let kinds : Some t.kind ≡ Some u.kind = both.0 in
    let ends : end_of t - t.start ≡ end_of u - u.start = both.1 in
    (cc, omega (arith, one.rises, other.rises))

skip_or_token : (source : List ℕ) (i n : ℕ) (t : Token) → Skips (take i source) (drop i source) n → t.start ≡ i
    → StandsIn source t → ⊥
skip_or_token source i n t skips e stands =
    let both : None ≡ Some t.kind =
    (one_form (take i source) (drop i source) None (Some t.kind) n _ skips (form_at source i t e stands)).0 in cc

-- where nothing stands, no way goes on
pub stuck : (source : List ℕ) (a l i : ℕ) (ts us : List Token) → Path source a i ts → Path source l i us → a < l
    → HasNoForm (take a source) (drop a source) → ⊥
stuck source a l i ts us (done j e) (done k f) lt nothing = omega arith
stuck source a l i ts us (done j e) (skip k n vs skips p) lt nothing = nothing None n (rw e at skips)
stuck source a l i ts us (done j e) (token k t vs f stands p) lt nothing =
    nothing (Some t.kind) _ (form_at source a t (f ∙ e) stands)
stuck source a l i ts us (skip j n vs skips p) (done k e) lt nothing = omega (arith, rises source a (j + n) vs p)
stuck source a l i ts us (skip j n vs skips p) (skip k m ws skips' q) lt nothing =
    let same : m ≡ n = (one_form (take i source) (drop i source) None None m n skips' skips).1 in
    stuck source a l (i + n) vs ws p (rw same at q) lt nothing
stuck source a l i ts us (skip j n vs skips p) (token k t ws e stands q) lt nothing =
    skip_or_token source i n t skips e stands
stuck source a l i ts us (token j t vs e stands p) (done k f) lt nothing =
    omega (arith, stands.rises, rises source a (end_of t) vs p)
stuck source a l i ts us (token j t vs e stands p) (skip k n ws skips q) lt nothing =
    skip_or_token source i n t skips e stands
stuck source a l i ts us (token j t vs e stands p) (token k u ws f stands' q) lt nothing =
    let same : end_of u ≡ end_of t = (same_end source i u t f e stands' stands).1 in
    stuck source a l (end_of t) vs ws p (rw same at q) lt nothing

-- so no list of tokens is that of a source at one of whose places nothing stands
pub none_lexed : (source before rest : List ℕ) (at : ℕ) (ts us : List Token) → before ≡ take at source
    → rest ≡ drop at source → at < length source → HasNoForm before rest → LexedPart source 0 ts at → Lexed source us
    → ⊥
none_lexed source before rest at ts us front back lt nothing read lexed =
    stuck source at (length source) 0 ts us (path source at 0 ts read) (path source (length source) 0 us lexed) lt
    (rw (front, back) at nothing)

-- ---- two lists of tokens

-- all but the line
record Alike (t u : Token) : Type 0 where
  kinds : t.kind ≡ u.kind
  texts : t.text.now ≡ u.text.now
  starts : t.start ≡ u.start
  ends : end_of t ≡ end_of u

alike : (source : List ℕ) (i : ℕ) (t u : Token) → t.start ≡ i → u.start ≡ i → StandsIn source t → StandsIn source u
    → Alike t u
alike source i t u e f one other =
    let both = same_end source i t u e f one other in
    let ends : end_of t ≡ end_of u = both.1 in
    let starts : t.start ≡ u.start = e ∙ sym f in record {
      kinds = both.0;
      texts = one.text ∙ ap (λ k. slice_range source k (end_of t)) starts ∙ ap (slice_range source u.start) ends
          ∙ sym other.text;
      starts = starts;
      ends = ends;
    }

parts : (source : List ℕ) (t u : Token) → Alike t u → t.line ≡ line_at source t.start → u.line ≡ line_at source u.start
    → parts_of t ≡ parts_of u
parts source t u same here there =
    let lines : t.line ≡ u.line = here ∙ ap (line_at source) same.starts ∙ sym there in
    let kinds = same.kinds in
    let texts = same.texts in
    let starts = same.starts in
    let ends = same.ends in cc

rest_of : (source : List ℕ) (t : Token) (ts : List Token) → HaveLines source (t ∷ ts) → HaveLines source ts
rest_of source t ts lines k d lt = lines (suc k) d (omega arith)

first_of : (source : List ℕ) (t : Token) (ts : List Token) → HaveLines source (t ∷ ts) → t.line ≡ line_at source t.start
first_of source t ts lines = lines zero t (omega arith)

at_end : (source : List ℕ) (i n : ℕ) (form : Option Kind) → i ≡ length source
    → IsForm form (take i source) (drop i source) n → ⊥
at_end source i n form e is =
    let past : drop i source ≡ [] = drop_all i source (omega arith) in
    none_at_end (take i source) form n (rw past at is)

same : (source : List ℕ) (i : ℕ) (ts us : List Token) → Path source (length source) i ts → HaveLines source ts
    → Path source (length source) i us → HaveLines source us → map parts_of ts ≡ map parts_of us
same source i ts us (done j e) lines (done k f) lines' = refl
same source i ts us (done j e) lines (skip k n vs skips p) lines' = absurd (at_end source i n None e skips)
same source i ts us (done j e) lines (token k t vs f stands p) lines' =
    absurd (at_end source i _ (Some t.kind) e (form_at source i t f stands))
same source i ts us (skip j n vs skips p) lines (done k e) lines' = absurd (at_end source i n None e skips)
same source i ts us (skip j n vs skips p) lines (skip k m ws skips' q) lines' =
    let equal : m ≡ n = (one_form (take i source) (drop i source) None None m n skips' skips).1 in
    same source (i + n) vs ws p lines (rw equal at q) lines'
same source i ts us (skip j n vs skips p) lines (token k t ws e stands q) lines' =
    absurd (skip_or_token source i n t skips e stands)
same source i ts us (token j t vs e stands p) lines (done k f) lines' =
    absurd (at_end source i _ (Some t.kind) f (form_at source i t e stands))
same source i ts us (token j t vs e stands p) lines (skip k n ws skips q) lines' =
    absurd (skip_or_token source i n t skips e stands)
same source i ts us (token j t vs e stands p) lines (token k u ws f stands' q) lines' =
    let like : Alike t u = alike source i t u e f stands stands' in
    let first : parts_of t ≡ parts_of u =
    parts source t u like (first_of source t vs lines) (first_of source u ws lines') in
    let equal : end_of u ≡ end_of t = sym like.ends in
    let later : map parts_of vs ≡ map parts_of ws =
    same source (end_of t) vs ws p (rest_of source t vs lines) (rw equal at q) (rest_of source u ws lines') in cc

pub one_list : (source : List ℕ) (tokens others : List Token) → Lexed source tokens → HaveLines source tokens
    → Lexed source others → HaveLines source others → map parts_of tokens ≡ map parts_of others
one_list source tokens others lexed lines lexed' lines' =
    same source 0 tokens others (path source (length source) 0 tokens lexed) lines
    (path source (length source) 0 others lexed') lines'
