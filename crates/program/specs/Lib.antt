-- What a readable file says to the rules and to the machine.
pub mod Statement
pub mod Program
