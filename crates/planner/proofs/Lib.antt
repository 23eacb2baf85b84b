-- Laws of lists of calls, and of the replies.
-- demand 3
pub mod Demand3
-- refused and answered calls
pub mod CallLaws
