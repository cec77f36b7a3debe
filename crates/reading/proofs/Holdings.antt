-- What the crates above read off the work table: its numbers, and the texts that they name, are those of the view that it holds; and `load` leaves the view of the listing.
use mathlib.Core.Path.{◌≡◌, refl, sym, ap, ap₂, ◌∙◌, subst}
use mathlib.Core.List.{List, [], ◌∷◌, map}
use Prim.Native.Nat.{ℕ, zero, suc, ◌+◌, ◌*◌, ◌^◌, ◌≤◌, ◌<◌}
use native.Mathlib.Omega.{arith}
use lib.ListN.{length, drop, get_or, get_or-map}
use lib.Dec.{T, leb, leb→le}
use borrow.Author.Tests.{ne_eqb}
use Rattle.text.specs.Texts.{Text, index_of}
use Rattle.text.specs.Lines.{lines_of}
use Rattle.listings.specs.Refusals.{accepted, reading_of}
use Rattle.listings.specs.Listings.{listing_of, records_of, patterns_of}
use Rattle.entries.specs.Tables.{Fits, region, text_at, stamped, texts_at, tables_at, start_tables, tables_of, span_at, spans_at}
use Rattle.reading.specs.Fillings.{Filling, filled, unfilled, fill_from, FillFits, FillOutcome, fill_shown, answer_of}
use Rattle.reading.specs.Views.{View, texts, cover_at, access_at, view_of, counted, access_by, view_in, view_at, ProperView}
use Rattle.reading.specs.Readers.{gone_first}
use Rattle.reading.specs.Holds.{OneOf, Holds, HoldsListing, ListingHeld, LoadOutcome}
use Rattle.entries.specs.declared.tables.Tally.{Tally}
use Rattle.reading.specs.declared.reader.Reader.{Reader}
use Rattle.reading.specs.declared.reader.Refusal.{Refusal}
use Rattle.std.specs.Prelude.{Result, Ok, Err}
use Rattle.reading.specs.declared.held.Access.TheVariants.{Open, Closed, ByRole}
use Rattle.entries.proofs.Regions.{region_length, region_at, texts_length, span_none, spans_length}
use Rattle.reading.proofs.Viewings.{texts_of_lem, roles_of_lem, methods_of, texts_in, cover_in_lem, access_in_lem}
use Rattle.reading.proofs.Loads.{accepted_sound, Begins, begins, begins_text, refused_read, filling_read, filling_tables}
use Rattle.reading.proofs.Rulings.{Pictures, pictures}
use Rattle.reading.proofs.Accepted.{accepted_proper, proper_view}

-- what a number of a region names, as f reads it; 0 names no text
named_by : (f : ℕ → Text) → f 0 ≡ [] → (w : List ℕ) (a n : ℕ) (us : List Text) (k : ℕ) → map f (region w a n) ≡ us → k < n
    → f (get_or w (a + k) 0) ≡ get_or us k []
named_by f z w a n us k e h =
    ap f (sym (region_at w a n k h))
    ∙ sym (get_or-map f (region w a n) k 0)
    ∙ ap₂ (λ (l : List Text) (d : Text). get_or l k d) e z

-- the text that a number of a region names
named_text : (s : Text) (w : List ℕ) (a n : ℕ) (us : List Text) (k : ℕ) → texts_at s (region w a n) ≡ us → k < n → text_at s (get_or w (a + k) 0) ≡ get_or us k []
unfolding texts_at text_at stamped
named_text s = named_by (text_at s) refl

-- a number of a region that is counted from 1
counted_number : (w : List ℕ) (a n c : ℕ) → 1 ≤ c → c ≤ n → get_or w (a + c) 0 ≡ get_or (0 ∷ region w (a + 1) n) c 0
counted_number w a n zero h l = absurd (omega arith)
counted_number w a n (suc c) h l =
    let e : a + suc c ≡ a + 1 + c = omega arith in
    ap (λ (i : ℕ). get_or w i 0) e ∙ sym (region_at w (a + 1) n c (omega arith))

-- ---- an offset of the listing's numbers is in the table, and small
module _ (n : ℕ) (h : n < 720) where
  pub near_fits : n < 2 ^ 64
  near_fits = omega arith

  pub near_scaled : n * 4 < 2 ^ 64
  near_scaled = omega arith

  pub near_within : (s : Text) (t : Tally) (w : List ℕ) → Holds s t w → n < length w
  near_within s t w H = omega (arith, H.fits.room)

pub ruleset near = (near_fits, near_scaled, near_within)

-- ---- what `held` reads off
module _ (s : Text) (t : Tally) (w : List ℕ) (H : Holds s t w) (v : View) (V : view_at s t w ≡ v) where
  -- ---- how many
  listed : (a n : ℕ) → a + n ≤ length w → n ≡ length (texts_at s (region w a n))
  listed a n h = sym (texts_length s (region w a n) ∙ region_length w a n h)

  pub role_number : t.roles ≡ length v.roles
  unfolding view_at view_in tables_at
  role_number = rw (← V) (listed 0 t.roles (omega (arith, H.fits.room, H.fits.roles)))

  pub method_number : t.methods ≡ length v.methods
  unfolding view_at view_in tables_at
  method_number = rw (← V) (listed 32 t.methods (omega (arith, H.fits.room, H.fits.methods)))

  spanned_texts : spans_at s (region w 64 t.patterns) ≡ texts v
  unfolding view_at tables_at
  spanned_texts = rw (← V) (sym (texts_in (tables_at s t w)))

  pub pattern_number : t.patterns ≡ length (texts v)
  pattern_number =
      sym (region_length w 64 t.patterns (omega (arith, H.fits.room, H.fits.patterns))) ∙ sym (spans_length s (region w 64 t.patterns)) ∙ ap length spanned_texts

  -- ---- where
  pub role_indexed : (n : Text) (r : ℕ) → r ≡ index_of n (texts_at s (region w 0 t.roles)) → r ≡ index_of n v.roles
  unfolding view_at view_in tables_at
  role_indexed n r e = rw (← V) e

  pub method_indexed : (n : Text) (r : ℕ) → r ≡ index_of n (texts_at s (region w 32 t.methods)) → r ≡ index_of n v.methods
  unfolding view_at view_in tables_at
  method_indexed n r e = rw (← V) e

  -- ---- a role, a method: their number is in the table, and names the text
  module _ (i : ℕ) (h : i < length v.roles) where
    here_r : i < t.roles
    here_r = omega (arith, role_number)

    pub role_near : 0 + i < 720
    role_near = omega (arith, here_r, H.fits.roles)

    pub role_text : (u : Text) → u ≡ text_at s (get_or w (0 + i) 0) → u ≡ get_or v.roles i []
    unfolding view_at view_in tables_at
    role_text u e = rw (← V) (e ∙ named_text s w 0 t.roles (texts_at s (region w 0 t.roles)) i refl here_r)

  module _ (i : ℕ) (h : i < length v.methods) where
    here_m : i < t.methods
    here_m = omega (arith, method_number)

    pub method_near : 32 + i < 720
    method_near = omega (arith, here_m, H.fits.methods)

    pub method_text : (u : Text) → u ≡ text_at s (get_or w (32 + i) 0) → u ≡ get_or v.methods i []
    unfolding view_at view_in tables_at
    method_text u e = rw (← V) (e ∙ named_text s w 32 t.methods (texts_at s (region w 32 t.methods)) i refl here_m)

  -- ---- a line: the numbers of its text, its collection and its constraint are in the table
  module _ (k : ℕ) (h : k < length (texts v)) where
    here : k < t.patterns
    here = omega (arith, pattern_number)

    in_tables : k < length (tables_at s t w).patterns
    unfolding tables_at
    in_tables = omega (arith, h, ap length spanned_texts)

    pub rule_near : (a : ℕ) → T (leb a 320) → a + k < 720
    rule_near a l = omega (arith, leb→le a 320 l, here, H.fits.patterns)

    pub rule_text : (u : Text) → u ≡ span_at s (get_or w (64 + k) 0) → u ≡ get_or (texts v) k []
    unfolding spans_at
    rule_text u e = e ∙ named_by (span_at s) (span_none s) w 64 t.patterns (texts v) k spanned_texts here

    -- ---- its collection
    module _ (c : ℕ) (e : c ≡ get_or w (192 + k) 0) where
      owner : OneOf t.collections c
      owner = rw e (H.owners k here)

      pub owner_near : 448 + c < 720
      owner_near = omega (arith, owner.1, H.fits.collections)

      pub rule_cover : get_or w (448 + c) 0 ≡ cover_at v k
      unfolding view_at tables_at
      rule_cover = rw (← V) (
          counted_number w 448 t.collections c owner.0 owner.1
          ∙ ap (counted (region w 449 t.collections)) (e ∙ sym (region_at w 192 t.patterns k here))
          ∙ sym (cover_in_lem (tables_at s t w) k in_tables))

    -- ---- its constraint
    module _ (c : ℕ) (e : c ≡ get_or w (320 + k) 0) where
      parent : OneOf t.constraints c
      parent = rw e (H.parents k here)

      pub parent_near : (a : ℕ) → T (leb a 650) → a + c < 720
      parent_near a l = omega (arith, leb→le a 650 l, parent.1, H.fits.constraints)

      rule_access : access_by (get_or w (650 + c) 0) (get_or w (580 + c) 0) ≡ access_at v k
      unfolding view_at tables_at
      rule_access = rw (← V) (
          ap₂ access_by
          (counted_number w 650 t.constraints c parent.0 parent.1 ∙ ap (counted (region w 651 t.constraints)) same_parent)
          (counted_number w 580 t.constraints c parent.0 parent.1 ∙ ap (counted (region w 581 t.constraints)) same_parent)
          ∙ sym (access_in_lem (tables_at s t w) k in_tables))
        where
          same_parent : c ≡ get_or (region w 320 t.patterns) k 0
          same_parent = e ∙ sym (region_at w 320 t.patterns k here)

      -- by the number of its access
      pub access_open : get_or w (650 + c) 0 ≡ 0 → Open ≡ access_at v k
      access_open m = rw m at rule_access

      pub access_closed : get_or w (650 + c) 0 ≡ 1 → Closed ≡ access_at v k
      access_closed m = rw m at rule_access

      pub access_by_role : (roles : ℕ) → roles ≡ get_or w (580 + c) 0 → (get_or w (650 + c) 0 ≡ 0 → ⊥) → (get_or w (650 + c) 0 ≡ 1 → ⊥) → ByRole roles ≡ access_at v k
      access_by_role roles e m n = rw e (rw (ne_eqb (get_or w (650 + c) 0) 0 m, ne_eqb (get_or w (650 + c) 0) 1 n) at rule_access)

-- ---- what `load` leaves: the view of the listing that the text is
module _ (s : Text) (t : Tally) (w : List ℕ) (a : reading_of s ≡ accepted) (e : tables_at s t w ≡ tables_of (records_of s)) (F : Fits s t w) where
  pictured : Pictures (tables_at s t w) (listing_of s)
  unfolding listing_of
  pictured = rw e (pictures (records_of s) (accepted_sound s a))

  view_listed : view_at s t w ≡ view_of (listing_of s)
  unfolding view_at
  view_listed = pictured.view

  line_listed : (k : ℕ) → k < t.patterns → k < length (patterns_of (listing_of s))
  unfolding tables_at
  line_listed k h =
      omega (arith, region_length w 64 t.patterns (omega (arith, F.room, F.patterns)), spans_length s (region w 64 t.patterns), ap length pictured.patterns)

  owner_listed : (k : ℕ) → k < t.patterns → OneOf t.collections (get_or w (192 + k) 0)
  unfolding tables_at
  owner_listed k h =
      let b = pictured.owner k (line_listed k h) in
      rw (← region_at w 192 t.patterns k h) (b.0, omega (arith, b.1, region_length w 449 t.collections (omega (arith, F.room, F.collections))))

  parent_listed : (k : ℕ) → k < t.patterns → OneOf t.constraints (get_or w (320 + k) 0)
  unfolding tables_at
  parent_listed k h =
      let b = pictured.parent k (line_listed k h) in
      rw (← region_at w 320 t.patterns k h) (b.0, omega (arith, b.1, region_length w 651 t.constraints (omega (arith, F.room, F.constraints))))

  pub holds_listing : HoldsListing s t w
  holds_listing = record {
    accepts = a;
    holds = record {
      fits = F;
      owners = owner_listed;
      parents = parent_listed;
      proper = subst ProperView (sym view_listed) (proper_view (listing_of s) (accepted_proper s a));
    };
    view = view_listed;
  }

-- `load`: its reader o has gone past the first line, or has the refusal
module _ (d : Reader) (s w : List ℕ) (o : Result Reader Refusal) (is : o ≡ gone_first d s 0) where
  pub load_refused : (f : Refusal) → o ≡ Err f → LoadOutcome s (Err f) w
  load_refused f e = record { answer = refused_read d s o is f e; holds = tt }

  pub load_read : (r : Reader) (out : Result Tally Refusal) → d.text.now ≡ s → o ≡ Ok r → FillOutcome r.text.now (fill_from start_tables 2 (lines_of (drop r.at r.text.now))) out w → LoadOutcome s out w
  load_read r out t e f = at_text r.text.now r.at (begins_text d s o is r t e) (ap (λ (x : Reader). x.at) b.is) f
    where
      b : Begins d s r
      b = begins d s o is r e

      read : (x : Filling) → x ≡ fill_from start_tables 2 (lines_of (drop 14 s)) → answer_of x ≡ reading_of s
      read x q = ap answer_of q ∙ filling_read s b.short b.starts

      go : (x : Result Tally Refusal) → fill_shown s x w ≡ fill_from start_tables 2 (lines_of (drop 14 s)) → FillFits s x w → LoadOutcome s x w
      go (Err g) q t = record { answer = read (unfilled g.fault g.line) q; holds = tt }
      go (Ok u) q t =
          record {
            answer = read (filled (tables_at s u w)) q;
            holds = holds_listing s u w (sym (read (filled (tables_at s u w)) q)) (filling_tables s b.short b.starts (tables_at s u w) (sym q)) t;
          }

      at_text : (u : Text) (n : ℕ) → u ≡ s → n ≡ 14 → FillOutcome u (fill_from start_tables 2 (lines_of (drop n u))) out w → LoadOutcome s out w
      at_text u n p q g = let k : FillOutcome s (fill_from start_tables 2 (lines_of (drop 14 s))) out w = rw (p, q) at g in go out k.answer k.fits

-- so what is read off a listing's table is what the listing says
module _ (s : Text) (t : Tally) (w : List ℕ) (H : HoldsListing s t w) where
  pub held_texts : texts (view_at s t w) ≡ patterns_of (listing_of s)
  held_texts = ap texts H.view ∙ texts_of_lem (listing_of s)

  pub held_roles : (view_at s t w).roles ≡ (listing_of s).roles
  held_roles = ap (λ (v : View). v.roles) H.view ∙ roles_of_lem (listing_of s)

  pub held_methods : (view_at s t w).methods ≡ (listing_of s).methods
  held_methods = ap (λ (v : View). v.methods) H.view ∙ methods_of (listing_of s)

-- as a value
pub listing_viewed : (s : Text) (t : Tally) (w : List ℕ) (v : View) → HoldsListing s t w → v ≡ view_at s t w → ListingHeld s v
listing_viewed s t w v H e = rw e (record { accepts = H.accepts; proper = H.holds.proper; view = H.view })
