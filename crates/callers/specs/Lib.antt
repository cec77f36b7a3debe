-- The caller as a set of roles. Who a caller is, and when it is bad, stands in `decisions`; this is for the proofs alone, and no public statement rests on a reader's believing it:
--   RoleSets  the caller's roles as a set
-- docs/READING.md explains the notation.
pub mod RoleSets
