-- The laws of callers:
--   Checks    the caller as a view sees it
--   Callings  the caller's names, as the code reads them
pub mod Checks
pub mod Callings
