-- To whom a new job belongs, proved.
pub mod Owners
pub mod Belongs
pub mod Trees
pub mod Belonging
