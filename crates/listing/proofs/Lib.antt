-- texts that are written one behind the other
pub mod WriteLaws
-- for callers: how long a listing can be
pub mod BoundLaws
