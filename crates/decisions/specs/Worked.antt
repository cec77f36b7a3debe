-- 01's "Worked requests" 1 to 11, and requests with parameters in their paths: the listings as bytes, and the requests.
use Rattle.std.specs.Prelude.{List, [], ◌∷◌, ◌++◌, map}
use Rattle.text.specs.Texts.{Text, bytes}
use Rattle.decisions.specs.Requests.{Caller, nobody, logged_in, Request, request}
use Rattle.decisions.specs.declared.answers.Answer.{Answer}
use Rattle.decisions.specs.declared.answers.Answer.TheVariants.{Open, ByRole, Closed, LoginWanted, RoleLacking}

-- "Listing L: roles adjuster, assessor, owner; `auth` without allow on `/*`, method DELETE; `auth` assessor on `/clock/*`, omit GET;
-- `auth` adjuster on `/clock/*`, method PUT; `open` on `*.csv`; `auth` `*` on `/clock/offset`, method GET."
unfoldable pub listing_l : Text
listing_l =
    bytes "constraints\t1\nrole\tadjuster\nrole\tassessor\nrole\towner\n"
    ++ bytes "constraint\tauth\ncollection\npattern\t/*\nmethod\tDELETE\n"
    ++ bytes "constraint\tauth\nallow\tassessor\ncollection\npattern\t/clock/*\nomit\tGET\n"
    ++ bytes "constraint\tauth\nallow\tadjuster\ncollection\npattern\t/clock/*\nmethod\tPUT\n"
    ++ bytes "constraint\topen\ncollection\npattern\t*.csv\n"
    ++ bytes "constraint\tauth\nallow\t*\ncollection\npattern\t/clock/offset\nmethod\tGET\n"
    ++ bytes "end\n"

-- "No role declared; `/a/*` allows `*` in one constraint and adjuster in another"
unfoldable pub undeclared : Text
undeclared =
    bytes "constraints\t1\n"
    ++ bytes "constraint\tauth\nallow\t*\ncollection\npattern\t/a/*\n"
    ++ bytes "constraint\tauth\nallow\tadjuster\ncollection\npattern\t/a/*\n"
    ++ bytes "end\n"

-- one who is logged in with one role
abbrev pub with : Text → Caller
with n = logged_in (n ∷ [])

-- requests 1 to 10, to listing L
unfoldable pub asked : List Request
asked =
    request (bytes "/x") (bytes "DELETE") (with (bytes "adjuster"))
    ∷ request (bytes "/x") (bytes "GET") nobody
    ∷ request (bytes "/clock") (bytes "PUT") (with (bytes "adjuster"))
    ∷ request (bytes "/clock/a") (bytes "GET") nobody
    ∷ request (bytes "/clock/a") (bytes "DELETE") (with (bytes "assessor"))
    ∷ request (bytes "/clockwork") (bytes "DELETE") (with (bytes "assessor"))
    ∷ request (bytes "/clock/offset") (bytes "PUT") nobody
    ∷ request (bytes "/clock/offset") (bytes "GET") nobody
    ∷ request (bytes "/log.csv") (bytes "DELETE") (with (bytes "assessor"))
    ∷ request (bytes "/clock/a") (bytes "PUT") (with (bytes "owner"))
    ∷ []

unfoldable pub answers : List Answer
answers = Closed ∷ Open ∷ ByRole ∷ Open ∷ ByRole ∷ Closed ∷ Open ∷ LoginWanted ∷ Closed ∷ RoleLacking ∷ []

-- request 11, to the other
unfoldable pub last_asked : Request
last_asked = request (bytes "/a/b") (bytes "GET") (with (bytes "adjuster"))

-- ---- parameters in paths
-- paths as received: 02's own; a `;` in the middle, twice in a segment, empty, after the dot; `/;x`; `;/` first and last
unfoldable pub received : List Text
received =
    bytes "/clock/offset;s=12"
    ∷ bytes "/clock;a=1/offset"
    ∷ bytes "/clock;a;b=/offset;c;;d"
    ∷ bytes "/clock/offset;"
    ∷ bytes "/log.;v=1.csv"
    ∷ bytes "/log.csv;v=1.txt"
    ∷ bytes "/;x"
    ∷ bytes "/;/clock;/"
    ∷ bytes "/clock/offset"
    ∷ []

-- and without their parameters
unfoldable pub left_over : List Text
left_over =
    bytes "/clock/offset"
    ∷ bytes "/clock/offset"
    ∷ bytes "/clock/offset"
    ∷ bytes "/clock/offset"
    ∷ bytes "/log."
    ∷ bytes "/log.csv"
    ∷ bytes "/"
    ∷ bytes "//clock/"
    ∷ bytes "/clock/offset"
    ∷ []

-- closed: what ends in `.csv`, and `/`
unfoldable pub endings : Text
endings = bytes "constraints\t1\nconstraint\tauth\ncollection\npattern\t*.csv\npattern\t\nend\n"

-- one who is not logged in asks for each of them
abbrev pub gets : List Text → List Request
gets ps = map (λ (p : Text). request p (bytes "GET") nobody) ps

-- listing L's exact pattern wants a login; behind `/clock/` and elsewhere GET is open
unfoldable pub parameter_answers : List Answer
parameter_answers = LoginWanted ∷ LoginWanted ∷ LoginWanted ∷ LoginWanted ∷ Open ∷ Open ∷ Open ∷ Open ∷ LoginWanted ∷ []

-- the other's answers
unfoldable pub ending_answers : List Answer
ending_answers = Open ∷ Open ∷ Open ∷ Open ∷ Open ∷ Closed ∷ Closed ∷ Open ∷ Open ∷ []
