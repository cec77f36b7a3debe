-- The lines with their nearest and first ones: laws in the shape of the code.
use mathlib.Core.Path.{◌≡◌, refl, sym, ap, subst, ◌∙◌}
use mathlib.Core.Bool.{Bool, true, false, cond}
use mathlib.Core.List.{List, []}
use Prim.Native.Nat.{ℕ, suc, ◌+◌, ◌≤◌, ◌<◌}
use native.Mathlib.Omega.{arith}
use native.Mathlib.Decide.{dec_lt}
use native.Mathlib.Numerals.{add-one}
use lib.ListN.{length, get_or, set, drop, length-set}
use lib.Seq.{get_or-set_same, get_or-set_other, drop-cons}
use Rattle.text.specs.Texts.{Text, same, index_of}
use Rattle.text.proofs.Spans.{same_self}
use Rattle.firsts.specs.Keeping.{Kept}
use Rattle.firsts.specs.Shares.{common, lines_in, Laid, Near, Shared, Sharing, ShareEntered, Enterable, FirstFound, Nearby, put_near, Entered, Counted, FirstsWritten}
use Rattle.reading.specs.Views.{View}
use Rattle.firsts.proofs.Keepings.{kept_all, kept_set, kept_then}
use Rattle.firsts.proofs.Sharings.{lines_few, laid_still}

-- ---- the first line with a text
-- the lines from i on are still to be looked at
pub record Seeking (t : Text) (ts : List Text) (n i : ℕ) : Type 0 where
  pub due : index_of t ts ≡ i + index_of t (drop i ts)
  pub ahead : i ≤ n

pub seek_start : (t : Text) (ts : List Text) (n : ℕ) → Seeking t ts n 0
seek_start t ts n = record { due = omega arith; ahead = omega arith }

module _ (t : Text) (ts : List Text) (n i : ℕ) (S : Seeking t ts n i) where
  module _ (v : Text) (v-is : v ≡ t) (r : Bool) (h : i < n) (l : n < length ts) (r-is : r ≡ same (get_or ts i []) v) where
    here : index_of t (drop i ts) ≡ cond r 0 (suc (index_of t (drop (suc i) ts)))
    unfolding index_of
    here = rw (drop-cons ts i [] (omega arith), r-is, v-is)

    pub seek_found : r ≡ true → i ≡ index_of t ts
    seek_found e = let d : index_of t (drop i ts) ≡ 0 = here ∙ rw e in omega (arith, S.due)

    pub seek_further : r ≡ false → Seeking t ts n (i + 1)
    seek_further e =
        let d : index_of t (drop i ts) ≡ suc (index_of t (drop (suc i) ts)) = here ∙ rw e in
        record { due = rw (add-one i) (omega (arith, S.due)); ahead = omega arith }

-- line n has the text
pub seek_own : (ts : List Text) (n i : ℕ) → Seeking (get_or ts n []) ts n i → n < length ts → n ≤ i → i ≡ index_of (get_or ts n []) ts
unfolding index_of
seek_own ts n i S h l =
    let e : i ≡ n = omega (arith, S.ahead) in
    let d : index_of (get_or ts n []) (drop n ts) ≡ 0 = rw (drop-cons ts n [] h, same_self (get_or ts n [])) in
    let q = rw e at S.due in
    omega arith

-- ---- what line j shares is entered line by line
-- that with the lines up to i is
pub record FindingTo (old new : View) (j i : ℕ) (w₀ w : List ℕ) : Type 0 where
  pub able : Enterable old new j w
  pub kept : Kept 512 768 w₀ w
  pub shared : Shared (get_or (lines_in old new) j []) (lines_in old new) i w
  pub seeking : Seeking (get_or (lines_in old new) j []) (lines_in old new) j i

pub finding_start : (old new : View) (j : ℕ) (w : List ℕ) → Enterable old new j w → FindingTo old new j 0 w w
finding_start old new j w X = record {
  able = X;
  kept = kept_all 512 768 w;
  shared = λ i h. absurd (omega arith);
  seeking = seek_start (get_or (lines_in old new) j []) (lines_in old new) j;
}

module _ (old new : View) (j i : ℕ) (w₀ w : List ℕ) (F : FindingTo old new j i w₀ w) where
  abbrev fs : List Text
  fs = lines_in old new

  inside : j < length fs
  inside = F.able.inside

  module _ (t : Text) (t-is : t ≡ get_or fs j []) (h : i < j) where
    -- the next line
    pub finding_next : Sharing old new t i w
    finding_next = record {
      laid = F.able.laid;
      inside = omega (arith, F.able.inside);
      few = omega (arith, F.able.few);
      tree = λ k l. F.able.tree k (omega arith);
      shared = λ k l. rw t-is (F.shared k l);
    }

    module _ (v : List ℕ) (r : Bool) (E : ShareEntered t (lines_in old new) i w v r) where
      abbrev x : ℕ
      x = common t (get_or (lines_in old new) i [])

      kept_1 : Kept 512 768 w v
      kept_1 = rw E.written (kept_set 512 768 w w (512 + i) x (kept_all 512 768 w) (omega arith) (omega (arith, F.able.few)))

      kept_2 : Kept 512 768 w₀ v
      kept_2 = kept_then 512 768 512 768 512 768 w₀ w v F.kept kept_1 (omega arith) (omega arith) (omega arith) (omega arith)

      found_is : r ≡ same (get_or fs i []) t
      found_is = E.found

      shared_1 : (k : ℕ) → k < i + 1 → get_or v (512 + k) 0 ≡ common (get_or fs j []) (get_or fs k [])
      shared_1 k l = ap (λ (u : List ℕ). get_or u (512 + k) 0) E.written ∙ go (dec_lt k i)
        where
          go : Dec (k < i) → get_or (set w (512 + i) x) (512 + k) 0 ≡ common (get_or fs j []) (get_or fs k [])
          go (yes q) = get_or-set_other w (512 + i) (512 + k) x 0 (λ e. omega arith) ∙ F.shared k q
          go (no q) =
              let e : k ≡ i = omega arith in
              rw e (get_or-set_same w (512 + i) x 0 (omega (arith, F.able.laid.room, F.able.few)) ∙ ap (λ (u : Text). common u (get_or fs i [])) t-is)

      -- it has the text
      pub finding_found : r ≡ true → FirstFound fs j w₀ v i
      finding_found e = record {
        kept = kept_2;
        first = seek_found (get_or fs j []) fs j i F.seeking t t-is r h inside found_is e;
        ahead = omega arith;
        shared = λ k l m. shared_1 k (omega arith);
      }

      -- it hasn't
      pub finding_further : r ≡ false → FindingTo old new j (i + 1) w₀ v
      finding_further e = record {
        able = record {
          laid = laid_still old new w F.able.laid v kept_1.size;
          inside = F.able.inside;
          few = F.able.few;
          tree = λ k l. rw (kept_1.before k (omega (arith, F.able.few)), kept_1.before (256 + k) (omega (arith, F.able.few))) (F.able.tree k l);
        };
        kept = kept_2;
        shared = shared_1;
        seeking = seek_further (get_or fs j []) fs j i F.seeking t t-is r h inside found_is e;
      }

  -- its own line is the first
  pub finding_own : j ≤ i → FirstFound fs j w₀ w i
  finding_own l = record {
    kept = F.kept;
    first = seek_own fs j i F.seeking inside l;
    ahead = F.seeking.ahead;
    shared = λ k m q. F.shared k (omega (arith, F.seeking.ahead));
  }

-- ---- the nearest line
pub near_own : (j f : ℕ) → f < j → Nearby j f f
near_own j f h = record { ahead = omega arith; known = λ l. omega arith }

pub near_other : (j f p : ℕ) → f ≤ j → j ≤ f → p ≤ j → Nearby j f p
near_other j f p h l m = record { ahead = m; known = λ q. omega arith }

-- ---- one line
module _ (j p f : ℕ) (w : List ℕ) (few : j < 256) (room : 2048 ≤ length w) where
  abbrev w₁ : List ℕ
  w₁ = set w j p

  abbrev w₂ : List ℕ
  w₂ = set w₁ (256 + j) (get_or w (512 + p) 0)

  put_kept : Kept 0 2048 w (put_near j p f w)
  put_kept =
      kept_set 0 2048 w w₂ (1666 + j) f
      (kept_set 0 2048 w w₁ (256 + j) (get_or w (512 + p) 0) (kept_set 0 2048 w w j p (kept_all 0 2048 w) (omega arith) (omega arith)) (omega arith) (omega arith))
      (omega arith) (omega arith)

  put_other : (i : ℕ) → (i ≡ j → ⊥) → (i ≡ 256 + j → ⊥) → (i ≡ 1666 + j → ⊥) → get_or (put_near j p f w) i 0 ≡ get_or w i 0
  put_other i a b c =
      get_or-set_other w₂ (1666 + j) i f 0 c
      ∙ get_or-set_other w₁ (256 + j) i (get_or w (512 + p) 0) 0 b
      ∙ get_or-set_other w j i p 0 a

  put_nearest : get_or (put_near j p f w) j 0 ≡ p
  put_nearest =
      get_or-set_other w₂ (1666 + j) j f 0 (λ e. omega arith)
      ∙ get_or-set_other w₁ (256 + j) j (get_or w (512 + p) 0) 0 (λ e. omega arith)
      ∙ get_or-set_same w j p 0 (omega arith)

  put_share : get_or (put_near j p f w) (256 + j) 0 ≡ get_or w (512 + p) 0
  put_share =
      get_or-set_other w₂ (1666 + j) (256 + j) f 0 (λ e. omega arith)
      ∙ get_or-set_same w₁ (256 + j) (get_or w (512 + p) 0) 0 (omega (arith, length-set w j p))

  put_first : get_or (put_near j p f w) (1666 + j) 0 ≡ f
  put_first = get_or-set_same w₂ (1666 + j) f 0 (omega (arith, length-set w₁ (256 + j) (get_or w (512 + p) 0), length-set w j p))

module _ (old new : View) (j : ℕ) (w₀ : List ℕ) (X : Enterable old new j w₀) (w₁ : List ℕ) (f : ℕ) (S : FirstFound (lines_in old new) j w₀ w₁ f) where
  pub enter_room : 2048 ≤ length w₁
  enter_room = omega (arith, X.laid.room, S.kept.size)

  pub enter_few : j < 256
  enter_few = X.few

  pub enter_first : f ≤ j
  enter_first = S.ahead

  pub entered : (p : ℕ) → Nearby j f p → (w : List ℕ) → w ≡ put_near j p f w₁ → Entered (lines_in old new) j w₀ w
  entered p N w q = subst (Entered (lines_in old new) j w₀) (sym q) (record {
    kept = kept_then 0 2048 512 768 0 2048 w₀ w₁ (put_near j p f w₁) S.kept (put_kept j p f w₁ X.few enter_room) (omega arith) (omega arith) (omega arith) (omega arith);
    others = λ i m. record {
      nearest = put_other j p f w₁ X.few enter_room i (λ e. omega arith) (λ e. omega arith) (λ e. omega arith) ∙ S.kept.before i (omega (arith, X.few));
      share = put_other j p f w₁ X.few enter_room (256 + i) (λ e. omega (arith, X.few)) (λ e. omega arith) (λ e. omega arith) ∙ S.kept.before (256 + i) (omega (arith, X.few));
      first = put_other j p f w₁ X.few enter_room (1666 + i) (λ e. omega (arith, X.few)) (λ e. omega (arith, X.few)) (λ e. omega arith) ∙ S.kept.behind (1666 + i) (omega arith);
    };
    near = rw (put_nearest j p f w₁ X.few enter_room, put_share j p f w₁ X.few enter_room) (record { ahead = N.ahead; share = λ m. S.shared p m (N.known m) });
    first = put_first j p f w₁ X.few enter_room ∙ S.first;
  })

-- ---- all lines
-- those up to j are entered
pub record EnteringTo (old new : View) (count j : ℕ) (w₀ w : List ℕ) : Type 0 where
  pub laid : Laid old new w
  pub entered : FirstsWritten (lines_in old new) j w₀ w
  pub so_far : j ≤ count
  pub all : count ≡ length (lines_in old new)

module _ (old new : View) (count : ℕ) where
  pub entering_start : (w : List ℕ) → Counted old new count w → EnteringTo old new count 0 w w
  entering_start w C = record {
    laid = C.laid;
    entered = record { kept = kept_all 0 2048 w; tree = λ i m. absurd (omega arith); firsts = λ i m. absurd (omega arith) };
    so_far = omega arith;
    all = C.all;
  }

  module _ (j : ℕ) (w₀ w : List ℕ) (S : EnteringTo old new count j w₀ w) where
    pub entering_next : j < count → Enterable old new j w
    entering_next h = record {
      laid = S.laid;
      inside = omega (arith, S.all);
      few = omega (arith, S.all, lines_few old new w S.laid);
      tree = S.entered.tree;
    }

    pub entering_more : j < count → (v : List ℕ) → Entered (lines_in old new) j w v → EnteringTo old new count (j + 1) w₀ v
    entering_more h v E = record {
      laid = laid_still old new w S.laid v E.kept.size;
      entered = record {
        kept = kept_then 0 2048 0 2048 0 2048 w₀ w v S.entered.kept E.kept (omega arith) (omega arith) (omega arith) (omega arith);
        tree = λ i m. near i m (dec_lt i j);
        firsts = λ i m. first i m (dec_lt i j);
      };
      so_far = omega arith;
      all = S.all;
    }
      where
        near : (i : ℕ) → i < j + 1 → Dec (i < j) → Near (lines_in old new) i (get_or v i 0) (get_or v (256 + i) 0)
        near i m (yes q) = let o = E.others i q in rw (o.nearest, o.share) (S.entered.tree i q)
        near i m (no q) = let z : i ≡ j = omega arith in rw z E.near

        first : (i : ℕ) → i < j + 1 → Dec (i < j) → get_or v (1666 + i) 0 ≡ index_of (get_or (lines_in old new) i []) (lines_in old new)
        first i m (yes q) = (E.others i q).first ∙ S.entered.firsts i q
        first i m (no q) = let z : i ≡ j = omega arith in rw z E.first

    pub entering_all : count ≤ j → FirstsWritten (lines_in old new) count w₀ w
    entering_all h = let q : j ≡ count = omega (arith, S.so_far) in rw q at S.entered
