-- Small files and what each comes to; proofs/Cases.antt computes that from their bytes.
use Rattle.std.specs.Prelude.{ℕ, List, [], ◌∷◌, ◌++◌, length}
use Rattle.text.specs.Texts.{Text, bytes}
use Rattle.portals.specs.Readings.{file_of}
use Rattle.portals.specs.Outcomes.{Handed, handed, read_by, left_by}

-- what is handed back where the buffer has 200 bytes, and the listing
pub record Outcome : Type 0 where
  pub handed : Handed
  pub listing : Text

abbrev pub outcome_of : Text → Outcome
outcome_of s = record { handed = read_by s (file_of s) 200; listing = left_by (file_of s) [] }

abbrev pub listed : Text → Outcome
listed t = record { handed = handed 0 0 0 (length t); listing = t }

abbrev pub refused_with : ℕ → ℕ → Outcome
refused_with number line = record { handed = handed number 1 line 0; listing = [] }

-- ---- a file, and its listing
-- a constraint on /a that holds also this; and the same with the start and the end of the file
abbrev constraint : Text → Text
constraint t = bytes "<security-constraint><web-resource-collection><url-pattern>/a</url-pattern></web-resource-collection>" ++ t ++ bytes "</security-constraint>"

abbrev file : Text → Text
file t = bytes "<web-app>" ++ t ++ bytes "</web-app>"

-- the declaration, comments, attributes, and a `url-pattern` in what is passed over; an entity and a comment in a text; a role behind the constraints
abbrev portal : Text
portal =
    bytes "<?xml version='1.0'?>\n<!-- portal -->\n<web-app version=\"3.0\">\n<servlet-mapping><url-pattern>x</url-pattern></servlet-mapping>\n"
    ++ bytes "<security-constraint><web-resource-collection><url-pattern> /a&amp;<!-- b -->b\n</url-pattern>"
    ++ bytes "<http-method>GET</http-method></web-resource-collection></security-constraint>"
    ++ bytes "<security-role><role-name>owner</role-name></security-role>\n</web-app>\n"

unfoldable pub asked : List Text
asked =
    -- no `auth-constraint`: open; an empty one: closed; one that allows
    file (constraint [])
    ∷ file (constraint (bytes "<auth-constraint/>"))
    ∷ file (constraint (bytes "<auth-constraint>\n<role-name>owner</role-name></auth-constraint>"))
    ∷ portal
    ∷ []

unfoldable pub answers : List Outcome
answers =
    listed (bytes "constraints\t1\nconstraint\topen\ncollection\npattern\t/a\nend\n")
    ∷ listed (bytes "constraints\t1\nconstraint\tauth\ncollection\npattern\t/a\nend\n")
    ∷ listed (bytes "constraints\t1\nconstraint\tauth\nallow\towner\ncollection\npattern\t/a\nend\n")
    ∷ listed (bytes "constraints\t1\nrole\towner\nconstraint\topen\ncollection\npattern\t/a&b\nmethod\tGET\nend\n")
    ∷ []

-- ---- a file that is refused, with the number and the line
unfoldable pub faulty : List Text
faulty =
    -- 17: no bytes; no end, and a byte 10 belongs to the line that it ends; the wrong end tag; no such entity; two elements
    []
    ∷ bytes "<web-app>\n<a>\n"
    ∷ bytes "<web-app>\n<a></b></web-app>"
    ∷ bytes "<web-app>\n<a>\n&#65;</a></web-app>"
    ∷ bytes "<web-app/>\n<web-app/>"
    -- 17: another root; stray text; a name out of place; no `role-name`; an element in a text; `auth-constraint` before the collections
    ∷ bytes "\n<web-app2/>"
    ∷ bytes "<web-app>\nx</web-app>"
    ∷ bytes "<web-app>\n<url-pattern/></web-app>"
    ∷ bytes "<web-app>\n<security-role>\n</security-role></web-app>"
    ∷ bytes "<web-app>\n<security-role><role-name>\n<b/></role-name></security-role></web-app>"
    ∷ bytes "<web-app>\n<security-constraint>\n<auth-constraint/></security-constraint></web-app>"
    -- 18: the ninth level; 19: anywhere
    ∷ bytes "<web-app><a><a><a><a><a><a><a>\n<a/></a></a></a></a></a></a></a></web-app>"
    ∷ bytes "<web-app>\n<a>\n<user-data-constraint/></a></web-app>"
    -- 6, 7, 9
    ∷ bytes "<web-app>\n<security-role>\n<role-name>*\n</role-name></security-role></web-app>"
    ∷ bytes "<web-app><security-constraint><web-resource-collection>\n<url-pattern>a</url-pattern>"
    ∷ bytes "<web-app><security-role><role-name>a</role-name></security-role>\n<security-role><role-name>a</role-name>"
    ∷ []

unfoldable pub refusals : List Outcome
refusals =
    refused_with 17 1
    ∷ refused_with 17 2
    ∷ refused_with 17 2
    ∷ refused_with 17 2
    ∷ refused_with 17 2
    ∷ refused_with 17 2
    ∷ refused_with 17 1
    ∷ refused_with 17 2
    ∷ refused_with 17 3
    ∷ refused_with 17 3
    ∷ refused_with 17 3
    ∷ refused_with 18 2
    ∷ refused_with 19 3
    ∷ refused_with 6 3
    ∷ refused_with 7 2
    ∷ refused_with 9 2
    ∷ []
