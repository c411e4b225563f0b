mod Cylinders
mod Found
mod Reciprocals
