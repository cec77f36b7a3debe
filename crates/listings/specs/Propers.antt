-- What is known of every accepted listing, by what reading refuses: its names and patterns are good, few enough, each once, and
-- those that its constraints speak of are among its roles and methods.
use Rattle.std.specs.Prelude.{◌≡◌, true, false, ◌≤◌, length}
use mathlib.Core.List.{Memᴰ}
use Rattle.text.specs.Texts.{Text, member, Once}
use Rattle.names.specs.Names.{is_star, is_role_name, is_method_name, is_pattern}
use Rattle.listings.specs.Listings.{Listing, PatternLine, pattern_lines_of, patterns_of}

pub record Proper (l : Listing) : Type 0 where
  -- the patterns
  pub few_patterns : length (patterns_of l) ≤ 128
  pub good_patterns : (t : Text) → Memᴰ t (patterns_of l) → is_pattern t ≡ true
  pub short_patterns : (t : Text) → Memᴰ t (patterns_of l) → length t ≤ 255
  -- the methods: what a line's collection names is one of them
  pub few_methods : length l.methods ≤ 31
  pub methods_once : Once l.methods
  pub good_methods : (m : Text) → member m l.methods ≡ true → is_method_name m ≡ true
  pub methods_listed : (r : PatternLine) → Memᴰ r (pattern_lines_of l) → (m : Text) → member m r.collection.methods ≡ true → member m l.methods ≡ true
  pub omitted_listed : (r : PatternLine) → Memᴰ r (pattern_lines_of l) → (m : Text) → member m r.collection.omitted ≡ true → member m l.methods ≡ true
  -- the roles: what is declared, and what a line's constraint allows, `*` aside, is one of them
  pub few_roles : length l.roles ≤ 32
  pub roles_once : Once l.roles
  pub good_roles : (n : Text) → member n l.roles ≡ true → is_role_name n ≡ true
  pub declared_listed : (n : Text) → member n l.declared ≡ true → member n l.roles ≡ true
  pub allowed_listed : (r : PatternLine) → Memᴰ r (pattern_lines_of l) → (n : Text) → is_star n ≡ false
      → member n r.constraint.allowed ≡ true → member n l.roles ≡ true
